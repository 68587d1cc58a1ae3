-- The names of the settings are identities.
use Rattle.std.proofs.Common.{List, ℕ, sym, subst}
use Rattle.std.specs.Prelude.{IsTrue}
use Rattle.std.proofs.lemmas.Bool.{and_parts}
use Rattle.wire_core.specs.Words.{is_identity}
use Rattle.agent_settings.proofs.Limits.{settings_facts}
use Rattle.agent_core.proofs.ledger.Ledger.new.Goals as goal

pub new-requires-2-clause-host : goal.new-requires-2-clause-host
new-requires-2-clause-host c =
    subst (λ (name : List ℕ). IsTrue (is_identity name)) (sym c.as_slice.ensures) (and_parts _ _ (settings_facts c.args.config c.requires.settings).host).0

pub new-requires-2-clause-realm : goal.new-requires-2-clause-realm
new-requires-2-clause-realm c =
    subst (λ (name : List ℕ). IsTrue (is_identity name)) (sym c.as_slice-2.ensures) (and_parts _ _ (settings_facts c.args.config c.requires.settings).realm).0
