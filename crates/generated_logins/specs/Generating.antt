-- Internal: what a generator still has to give, from where it stands.
use Rattle.std.specs.Prelude.{ℕ, zero, suc, ◌+◌, List, [], ◌∷◌, ◌++◌, Option, Some, None}
use Rattle.generated_logins.specs.Generator.{agent_line, client_line, ready_line, opening_lines, request_line, answer_line, drain_line, repeat_lines, login_lines, next_draw}
use Rattle.generated_logins.specs.declared.generator.LoginStage.{LoginStage}
use Rattle.generated_logins.specs.declared.generator.LoginStage.TheVariants.{Agent, Client, Ready, Request, Repeat, Answer, LateRepeat, Drain}
use Rattle.generated_logins.specs.declared.generator.Position.{Position}

-- the line that says this, of the login with a number, for which r was drawn
abbrev pub stage_line : LoginStage → ℕ → ℕ → List ℕ
stage_line Agent i r = agent_line
stage_line Client i r = client_line
stage_line Ready i r = ready_line
stage_line Request i r = request_line i
stage_line Repeat i r = request_line i
stage_line Answer i r = answer_line i r
stage_line LateRepeat i r = request_line i
stage_line Drain i r = drain_line i

-- that line and those after it, as far as the login goes
abbrev pub stage_lines : LoginStage → ℕ → ℕ → List (List ℕ)
stage_lines Agent i r = opening_lines ++ login_lines i r
stage_lines Client i r = client_line ∷ ready_line ∷ login_lines i r
stage_lines Ready i r = ready_line ∷ login_lines i r
stage_lines Request i r = login_lines i r
stage_lines Repeat i r = request_line i ∷ answer_line i r ∷ repeat_lines 18 i r ++ drain_line i ∷ []
stage_lines Answer i r = answer_line i r ∷ repeat_lines 18 i r ++ drain_line i ∷ []
stage_lines LateRepeat i r = request_line i ∷ drain_line i ∷ []
stage_lines Drain i r = drain_line i ∷ []

-- the lines of so many logins from this number on, r being drawn for the first of them
abbrev pub logins_from : ℕ → ℕ → ℕ → List (List ℕ)
logins_from zero i r = []
logins_from (suc count) i r = login_lines i r ++ logins_from count (i + 1) (next_draw r)

-- all that is to come, where so many logins come after this one
abbrev pub lines_at : LoginStage → ℕ → ℕ → ℕ → List (List ℕ)
lines_at stage i left r = stage_lines stage i r ++ logins_from left (i + 1) (next_draw r)

abbrev pub line_at : Position → List ℕ
line_at p = stage_line p.stage p.number p.drawn

abbrev pub lines_from : Position → List (List ℕ)
lines_from p = lines_at p.stage p.number p.left p.drawn

-- at the end nothing is left
abbrev pub lines_left : Option Position → List (List ℕ)
lines_left None = []
lines_left (Some p) = lines_from p
