-- A block of counters in the text format of Prometheus (profile).
use Rattle.std.specs.Prelude.{ℕ, ◌+◌, ◌/◌, ◌%◌, ◌==◌, List, [], ◌∷◌, ◌++◌, decimal, if◌then◌else◌}
use Rattle.std.specs.List.{flat_map}
use Rattle.count_command.specs.declared.events.TheConstants.{REQUESTS, REPLIES, DROPS, SENDS, CLOSES}
use Rattle.count_command.specs.declared.answers.TheConstants.{ANSWERS, BAD_ANSWERS, BUCKETS, SUM, COUNT}
use Rattle.count_command.specs.declared.block.TheConstants.{REQUESTS_HEAD, REPLIES_HEAD, DROPS_HEAD, SENDS_HEAD, ANSWERS_HEAD, BAD_ANSWERS_HEAD, CLOSES_HEAD, LINK_UP_HEAD, LIVE_HEAD, WAITING_HEAD, SECONDS_HEAD, MOMENT_HEAD}
use Rattle.count_command.specs.declared.block.Gauges.{Gauges}
use Rattle.count_command.specs.declared.tally.Count.{Count}

-- milliseconds as seconds with three decimals
abbrev pub seconds : ℕ → List ℕ
seconds time = decimal (time / 1000) ++ 46 ∷ (48 + time % 1000 / 100) ∷ (48 + time % 100 / 10) ∷ (48 + time % 10) ∷ []

-- HEAD VALUE
abbrev pub value_text : Count → List ℕ
value_text c = if c.order.metric == SUM then seconds c.value else decimal c.value

abbrev pub count_line : Count → List ℕ
count_line c = c.head ++ 32 ∷ value_text c ++ 10 ∷ []

abbrev pub line_if : ℕ → Count → List ℕ
line_if metric c = if c.order.metric == metric then count_line c else []

-- the lines of a metric, in their order
abbrev pub lines_of : ℕ → List Count → List ℕ
lines_of metric counts = flat_map (line_if metric) counts

abbrev pub family : List ℕ → ℕ → List Count → List ℕ
family head metric counts = head ++ lines_of metric counts

abbrev pub gauge : List ℕ → ℕ → List ℕ
gauge head value = head ++ decimal value ++ 10 ∷ []

abbrev pub counters : List Count → List ℕ
counters counts =
    family REQUESTS_HEAD.now REQUESTS counts ++ family REPLIES_HEAD.now REPLIES counts ++ family DROPS_HEAD.now DROPS counts
    ++ family SENDS_HEAD.now SENDS counts ++ family ANSWERS_HEAD.now ANSWERS counts ++ family BAD_ANSWERS_HEAD.now BAD_ANSWERS counts
    ++ family CLOSES_HEAD.now CLOSES counts

abbrev pub state : List Count → Gauges → List ℕ
state counts g =
    gauge LINK_UP_HEAD.now g.link_up ++ gauge LIVE_HEAD.now g.live ++ gauge WAITING_HEAD.now g.waiting
    ++ family SECONDS_HEAD.now BUCKETS counts ++ lines_of SUM counts ++ lines_of COUNT counts
    ++ gauge MOMENT_HEAD.now g.moment

-- an empty line stands behind a block
abbrev pub block : List Count → Gauges → List ℕ
block counts g = counters counts ++ state counts g ++ 10 ∷ []
