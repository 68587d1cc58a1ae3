-- Internal: what a look at the octets that are left finds.
use Rattle.std.specs.Prelude.{◌≡◌, ℕ, ◌≤◌, List, length, take}
use Rattle.diameter_message.specs.declared.framer.Look.{Look}
use Rattle.diameter_message.specs.declared.framer.Look.TheVariants.{Whole, Part, Broken}
use Rattle.diameter_message.specs.declared.next.Next.TheVariants.{Message, Wait, Fault}
use Rattle.diameter_message.specs.Framing.{next_in}

abbrev pub Finds : List ℕ → Look → Type 0
Finds octets (Whole n) = (next_in octets ≡ Message (take n octets)) × (n ≤ length octets)
Finds octets Part = next_in octets ≡ Wait
Finds octets (Broken fault) = next_in octets ≡ Fault fault
