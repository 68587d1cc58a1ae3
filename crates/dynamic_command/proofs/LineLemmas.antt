-- How a session goes on by a line.
use Rattle.std.proofs.Common.{◌≡◌, ℕ, List, [], ◌∷◌, Option, Some, None, Result, Ok, Err, refl, sym, ◌∙◌, subst}
use Rattle.std.specs.Prelude.{IfErr, OnOk}
use Rattle.wire_core.specs.Sink.{AppendsPrefix}
use Rattle.agent_settings.specs.declared.config.Config.{Config}
use Rattle.session_book.specs.Standing.{BookState, BookStandsFor}
use Rattle.transcript.specs.Told.{CanFollow, told_by, told_on}
use Rattle.transcript.proofs.Reading.FollowLemmas.{after-append, after-seen, given_by-more}
use Rattle.transcript.specs.declared.line.Line.{Line}
use Rattle.transcript.specs.declared.line.Line.TheVariants as line
use Rattle.agent_status.specs.declared.status.Status.{Status}
use Rattle.text_commands.specs.Transcripts.{FollowsLine, IsFailure}
use Rattle.dynamic_command.specs.declared.session.BookSession.{BookSession}
use Rattle.dynamic_command.specs.Dynamic.{Stage, Settings, Running, begun, dynamic_rule, first_stage, stage_after, stage_on, text_of, told_of}
use Rattle.dynamic_command.specs.Running.{CanTake, Follows, HasFollowed, IsAt}

-- ---- what was told

told-on : (stage : Stage) (said : Line) → told_of (stage_on stage said) ≡ told_on (told_of stage) said
told-on (Settings before) (line.Agent number config) = refl
told-on (Settings before) (line.Client number client) = refl
told-on (Settings None) (line.Event number moment inputs) = refl
told-on (Settings (Some config)) (line.Event number moment inputs) = refl
told-on (Settings None) (line.Control number moment address port octets) = refl
told-on (Settings (Some config)) (line.Control number moment address port octets) = refl
told-on (Running config ps) (line.Agent number other) = refl
told-on (Running config ps) (line.Client number client) = refl
told-on (Running config ps) (line.Event number moment inputs) = refl
told-on (Running config ps) (line.Control number moment address port octets) = refl

take-at : (stage : Stage) (session : BookSession) (said : Line) → IsAt session stage → CanFollow (told_of stage) said → CanTake session.config said
take-at stage session (line.Agent n config) at can = tt
take-at (Running config ps) session (line.Client n client) at can = rw at.0 tt
take-at (Running config ps) session (line.Event n moment inputs) at can = rw at.0 tt
take-at (Running config ps) session (line.Control n moment address port octets) at can = rw at.0 tt
take-at (Settings None) session (line.Client n client) at can = rw at.0 tt
take-at (Settings None) session (line.Event n moment inputs) at can = rw at.0 tt
take-at (Settings None) session (line.Control n moment address port octets) at can = rw at.0 tt
take-at (Settings (Some c)) session (line.Client n client) at can = rw at.0 can.3
take-at (Settings (Some c)) session (line.Event n moment inputs) at can = rw at.0 can
take-at (Settings (Some c)) session (line.Control n moment address port octets) at can = rw at.0 can

pub can-take : (session : BookSession) (lines : List Line) (said : Line) → HasFollowed session lines → CanFollow (told_by lines) said
    → CanTake session.config said
can-take session lines said at can =
    take-at (stage_after first_stage lines) session said at (subst (λ told. CanFollow told said) (sym (after-seen stage_on told_on told_of told-on first_stage lines)) can)

-- ---- the book is made

pub begin-at : (old new : BookSession) (stage : Stage) (config : Config) (book : BookState) → IsAt old stage → old.config ≡ Some config
    → new.config ≡ None → new.book ≡ Some book → new.counts ≡ old.counts → book.core.config ≡ config → BookStandsFor book []
    → IsAt new (begun stage)
begin-at old new (Settings None) config book at is none some counts same stands = absurd cc (sym at.0 ∙ is)
begin-at old new (Settings (Some c)) config book (told_is, no_book, none_yet) is none some counts same stands =
    let c_is : c ≡ config = cc (told_is, is) in (
      none,
      rw some (record {
        history = [];
        past_is = refl;
        config_is = same ∙ sym c_is;
        stands = stands;
        counted = counts ∙ none_yet;
      }),
    )
begin-at old new (Running c ps) config book at is none some counts same stands = absurd cc (sym at.0 ∙ is)

-- ---- a line, after those before it

pub follows-line : (r : Result Unit Status) (session : BookSession) (lines : List Line) (said : Line) (before now : Option (List ℕ))
    → OnOk r (Follows session (stage_after first_stage lines) said before now)
    → AppendsPrefix before now (text_of (stage_after first_stage lines) said) → IfErr r IsFailure
    → FollowsLine dynamic_rule (λ ls. HasFollowed session ls) r lines said before now
follows-line (Ok done) session lines said before now (at, wrote) part failure = (
  subst (IsAt session) (sym (after-append stage_on first_stage lines (said ∷ []))) at,
  (text_of (stage_after first_stage lines) said, given_by-more stage_on text_of first_stage lines said, wrote),
)
follows-line (Err status) session lines said before now done part failure =
    (failure, (text_of (stage_after first_stage lines) said, given_by-more stage_on text_of first_stage lines said, part))
