-- The group and its members lie behind its place, and their count is its length.
use Rattle.std.proofs.Common.{arith}
use Rattle.diameter_avp.proofs.GroupLemmas.{length-open, IsWritten-ended}
use Rattle.diameter_avp.proofs.writer.AvpWriter.end_group.Goals as goal

pub overflow_add-place : goal.overflow_add-place
overflow_add-place c =
    let inside = length-open c.self.inside.front c.self.inside.octets.items _ _ _ c.self.invariant c.self.view_is c.requires.1 in
    omega (arith, c.group.view_is)

pub overflow_sub-length : goal.overflow_sub-length
overflow_sub-length c =
    let inside = length-open c.self.inside.front c.self.inside.octets.items _ _ _ c.self.invariant c.self.view_is c.requires.1 in
    omega (arith, c.group.view_is)

pub overflow_add-place-2 : goal.overflow_add-place-2
overflow_add-place-2 c =
    let inside = length-open c.self.inside.front c.self.inside.octets.items _ _ _ c.self.invariant c.self.view_is c.requires.1 in
    omega (arith, c.group.view_is)

pub overwrite_u24-requires-clause-inside : goal.overwrite_u24-requires-clause-inside
overwrite_u24-requires-clause-inside c =
    let inside = length-open c.self.inside.front c.self.inside.octets.items _ _ _ c.self.invariant c.self.view_is c.requires.1 in
    omega (arith, c.group.view_is)

pub invariant_of-self : goal.invariant_of-self
invariant_of-self c =
    (IsWritten-ended c.self.inside.front c.self.inside.octets.items _ _ _ c.self.invariant c.self.view_is c.requires.1 _ _ _ (omega (arith, c.group.view_is)) (omega (arith, c.group.view_is, c.len.ensures)) c.overwrite_u24.ensures).0

pub returns : goal.returns
returns c = λ g stands.
    (IsWritten-ended c.self.inside.front c.self.inside.octets.items _ _ _ c.self.invariant c.self.view_is stands _ _ _ (omega (arith, c.group.view_is)) (omega (arith, c.group.view_is, c.len.ensures)) c.overwrite_u24.ensures).1
