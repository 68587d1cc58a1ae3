-- The loop comes to two folds over the whole list.
use Rattle.std.proofs.Common.{◌≡◌, ◌∙◌, fold, rules}
use Rattle.translation.specs.declared.direction.Direction.TheVariants.{Access}
use Rattle.translation.specs.Faults as faults
use Rattle.translation.proofs.FaultLemmas.{faults_in-fold}
use Rattle.access_map.specs.Credentials.{credentials_with, no_credentials}
use Rattle.access_map.proofs.CredentialLemmas.{credentials_in-fold}
use Rattle.access_map.proofs.judging.read.Goals as goal

pub returns-clause-faults : goal.returns-clause-faults
returns-clause-faults c =
    let exact : c.loop-attribute.faults ≡ fold (faults.faults_with c.args.client.now c.args.address Access) faults.none c.args.packet.now.attributes = search rules in
    exact ∙ faults_in-fold c.args.client.now c.args.address Access c.args.packet.now.attributes

pub returns-clause-credentials : goal.returns-clause-credentials
returns-clause-credentials c =
    let exact : c.loop-attribute.credentials ≡ fold credentials_with no_credentials c.args.packet.now.attributes = search rules in
    exact ∙ credentials_in-fold c.args.packet.now.attributes
