-- How `check` ends.
use Rattle.std.proofs.Common.{◌≡◌, ℕ, ◌≤◌, ◌⊎◌, inl, inr, List, [], length, Option, Some, Ok, refl, sym, ap, subst, arith}
use Rattle.std.proofs.lemmas.List.{length-append, append-nil}
use Rattle.wire_core.specs.Counts.{Rose}
use Rattle.wire_core.specs.Source.{Consumes}
use Rattle.wire_core.proofs.SourceLaws.{Consumes-told}
use Rattle.wire_core.specs.Sink.{Appends, AppendsPrefix}
use Rattle.agent_settings.specs.declared.config.Config.{Config}
use Rattle.agent_config.specs.Settings.{settings_in}
use Rattle.printed_lines.specs.SettingsText.{settings_text}
use Rattle.agent_status.specs.declared.status.Status.{Status}
use Rattle.agent_status.specs.declared.status.Status.TheVariants.{Done, Usage, BadConfig, BadTranscript, ReadFault, WriteFault, OutOfMemory, TooLong, LinkFault, PeerRefused, NoThread, DatagramFault, LinkEnded}
use Rattle.text_commands.specs.Checks.{ChecksBy, IsCheckEnd}
use Rattle.text_commands.specs.SettingsInput.{SettingsNot, SettingsTaken}
use Rattle.text_commands.specs.WholeInput.{TakesNot, most_whole}
use Rattle.text_commands.specs.Tasks.{EndsCounts}

pub not-taken : (status : Status) (X : List ℕ) (before left written : Option (List ℕ)) → before ≡ Some X → SettingsNot status before left
    → ChecksBy status X left written written
not-taken (BadConfig fault) X before left written told is = ((is X told).0, (is X told).1, refl)
not-taken ReadFault X before left written told takes = (subst (λ b. TakesNot ReadFault b left) told takes, refl)
not-taken OutOfMemory X before left written told takes = (subst (λ b. TakesNot OutOfMemory b left) told takes, refl)
not-taken TooLong X before left written told takes = (subst (λ b. TakesNot TooLong b left) told takes, refl)
not-taken Done X before left written told takes = absurd takes
not-taken Usage X before left written told takes = absurd takes
not-taken LinkFault X before left written told takes = absurd takes
not-taken (PeerRefused code) X before left written told takes = absurd takes
not-taken NoThread X before left written told takes = absurd takes
not-taken DatagramFault X before left written told takes = absurd takes
not-taken (LinkEnded cause) X before left written told takes = absurd takes
not-taken (BadTranscript number reason) X before left written told takes = absurd takes
not-taken WriteFault X before left written told takes = absurd takes

-- without settings a check ends so
pub known : (status : Status) (before left : Option (List ℕ)) → SettingsNot status before left → IsCheckEnd status
known Done before left not = tt
known Usage before left not = absurd not
known (BadConfig fault) before left not = tt
known (BadTranscript number reason) before left not = absurd not
known ReadFault before left not = tt
known WriteFault before left not = tt
known OutOfMemory before left not = tt
known TooLong before left not = tt
known LinkFault before left not = absurd not
known (PeerRefused code) before left not = absurd not
known NoThread before left not = absurd not
known DatagramFault before left not = absurd not
known (LinkEnded cause) before left not = absurd not

all-of : (X : List ℕ) (left : Option (List ℕ)) → left ≡ Some [] → Consumes (Some X) left X
all-of X left none = subst (λ l. Consumes (Some X) l X) (sym none) (record { front = ap Some (sym (append-nil X)) })

-- there was no memory to print the lines
pub not-printed : (status : Status) (X : List ℕ) (config : Config) (before left written : Option (List ℕ)) → before ≡ Some X
    → SettingsTaken config before left → status ≡ OutOfMemory → ChecksBy status X left written written
not-printed status X config before left written told taken is =
    let (whole, found) = taken X told in
    subst (λ s. ChecksBy s X left written written) (sym is) ((X, all-of X left whole.ended, whole.few), refl)

pub printed : (X lines : List ℕ) (config : Config) (before left written now : Option (List ℕ)) → before ≡ Some X
    → SettingsTaken config before left → lines ≡ settings_text config → Appends written now lines → ChecksBy Done X left written now
printed X lines config before left written now told taken prints wrote =
    let (whole, found) = taken X told in (whole, (config, found, subst (Appends written now) prints wrote))

pub not-written : (status : Status) (X lines : List ℕ) (config : Config) (before left written now : Option (List ℕ)) → before ≡ Some X
    → SettingsTaken config before left → lines ≡ settings_text config → (status ≡ WriteFault) × AppendsPrefix written now lines
    → ChecksBy status X left written now
not-written status X lines config before left written now told taken prints (same, wrote) =
    let (whole, found) = taken X told in
    subst (λ s. ChecksBy s X left written now) (sym same) (whole, (config, found, subst (AppendsPrefix written now) prints wrote))

pub completes : (status : Status) (X : List ℕ) (config : Config) (left before now : Option (List ℕ)) (a a' b b' d d' : ℕ) → (status ≡ Usage → ⊥)
    → ChecksBy status X left before now → EndsCounts status a a' b b' d d' → settings_in X ≡ Ok config → length X ≤ most_whole
    → (Rose b b' → ⊥) → (Rose d d' → ⊥) → (status ≡ Done) ⊎ (status ≡ OutOfMemory)
completes Done X config left before now a a' b b' d d' begun ends counts is short reads writes = inl refl
completes OutOfMemory X config left before now a a' b b' d d' begun ends counts is short reads writes = inr refl
completes Usage X config left before now a a' b b' d d' begun ends counts is short reads writes = absurd (begun refl)
completes LinkFault X config left before now a a' b b' d d' begun ends counts is short reads writes = absurd ends.0
completes (PeerRefused code) X config left before now a a' b b' d d' begun ends counts is short reads writes = absurd ends.0
completes NoThread X config left before now a a' b b' d d' begun ends counts is short reads writes = absurd ends.0
completes DatagramFault X config left before now a a' b b' d d' begun ends counts is short reads writes = absurd ends.0
completes (LinkEnded cause) X config left before now a a' b b' d d' begun ends counts is short reads writes = absurd ends.0
completes (BadConfig fault) X config left before now a a' b b' d d' begun (taken, bad, same) counts is short reads writes = cc (is, bad)
completes (BadTranscript number reason) X config left before now a a' b b' d d' begun ends counts is short reads writes = absurd ends.0
completes ReadFault X config left before now a a' b b' d d' begun ends counts is short reads writes = absurd (reads counts)
completes WriteFault X config left before now a a' b b' d d' begun ends counts is short reads writes = absurd (writes counts)
completes TooLong X config left before now a a' b b' d d' begun ((octets, taken, many), same) counts is short reads writes =
    let (ys, still, cut) = Consumes-told taken X refl in
    absurd (omega (arith, short, many, ap length cut, length-append octets ys))
