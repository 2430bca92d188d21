use native.Mathlib.Omega.{arith}
use Rattle.words.specs.Bytes.{Bytes}
use Rattle.optimize.specs.laws.Given.{answers_same}
use Rattle.clean.specs.laws.Ready.{code_part, metadata_part, later_workable, later_outcome_lem}
use Rattle.clean.proofs.later.work.Goals as goal

pub optimize-requires : goal.optimize-requires
optimize-requires c =
    let a = c.args in
    let ready = c.requires.0 in
    let unit-bytes : Bytes a.unit.now = λ i. omega (arith, c.type_inv.unit i) in
    let from_bytes : Bytes a.from.now = λ i. omega (arith, c.type_inv.from i) in
    let code = code_part a.from.now _ _ c.metadata_at-metadata.ensures in
    let metadata = metadata_part a.from.now _ _ _ c.metadata_at-metadata.ensures c.places_at-places.ensures in
    record { given = later_workable ready unit-bytes from_bytes _ _ code metadata c.requires.1; room = ready.out_room }

pub returns : goal.returns
returns c =
    let a = c.args in
    let unit-bytes : Bytes a.unit.now = λ i. omega (arith, c.type_inv.unit i) in
    let from_bytes : Bytes a.from.now = λ i. omega (arith, c.type_inv.from i) in
    let code = code_part a.from.now _ _ c.metadata_at-metadata.ensures in
    let metadata = metadata_part a.from.now _ _ _ c.metadata_at-metadata.ensures c.places_at-places.ensures in
    answers_same _ _ _ _ _ (later_outcome_lem c.requires.0 unit-bytes from_bytes _ _ code metadata) c.optimize.ensures.answers
