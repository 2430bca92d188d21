use Rattle.std.proofs.Common.{◌≡◌, ℕ, ◌+◌, ◌*◌, ◌≤◌, Bool, true, false, cond, not, ap, ◌∙◌, arith}
use Rattle.unit.specs.Size.{metadata_size}
use Rattle.effects.specs.laws.Form.{row_of}
use Rattle.effects.specs.laws.Plain.{is_plain}
use Rattle.use_def.specs.laws.PlainSets.{same_ranges}
use Rattle.use_def.proofs.touch.ranges_metadata.Goals as goal

-- an entry where place p has one
inside : (when : Bool) (p k : ℕ) → metadata_size * p + metadata_size ≤ k → metadata_size * cond when p 0 + metadata_size ≤ k
inside true p k h = h
inside false p k h = omega arith

pub metadata-requires : goal.metadata-requires
metadata-requires c = let s = c.before.before.before.before in rw c.index_if-at.ensures (inside (not c.is_plain.result) s.args.p _ s.requires)

pub returns : goal.returns
returns c =
    let s = c.before.before.before.before.before in
    let plain = c.is_plain in
    let row : plain.result ≡ is_plain s.args.i.op (row_of s.args.i.op) = plain.ensures ∙ ap (λ (r : ℕ). is_plain s.args.i.op r) c.row.ensures in
    same_ranges s.args.i s.args.metadata.now s.args.p _ plain.result _ row c.index_if-at.ensures c.metadata.ensures
