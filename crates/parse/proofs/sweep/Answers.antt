use mathlib.Core.Path.{◌≡◌}
use mathlib.Core.Bool.{◌&&◌}
use mathlib.Core.List.{List}
use Prim.Native.Nat.{ℕ, ◌/◌}
use native.Mathlib.Nat.{one-mul}
use native.Mathlib.Omega.{arith}
use lib.ListN.{length}
use Rattle.words.specs.Lists.{every, lowest_below}
use Rattle.unit.specs.Size.{metadata_size, constant_size, case_size}
use Rattle.unit.specs.Entry.{good_metadata, is_wide_select, metadata_at, good_type, type_at, good_constant, good_case, case_at}
use Rattle.unit.specs.Layout.{header_of, metadata_of, types_of, constants_of, cases_of, good_entries, wide_select}
use Rattle.unit.specs.laws.UnitLaws.{Lengths, lengths, within}
use Rattle.parse.proofs.sweep.Goals as goal

-- the number of a section's entries is its length by an entry's size
by_lengths : (u : List ℕ) → Lengths u
    → (every (length (metadata_of u) / metadata_size) (λ k. good_metadata (header_of u).counts.cases (metadata_at (metadata_of u) k))
    && every (length (types_of u)) (λ k. good_type (type_at (types_of u) k))
    && every (length (constants_of u) / constant_size) (λ k. good_constant (constants_of u) k)
    && every (length (cases_of u) / case_size) (λ k. good_case (case_at (cases_of u) k)))
    ≡ good_entries u
unfolding good_entries
by_lengths u l =
    let metadata : length (metadata_of u) / metadata_size ≡ (header_of u).counts.metadata = omega (arith, l.metadata) in
    let constants : length (constants_of u) / constant_size ≡ (header_of u).counts.constants = omega (arith, l.constants) in
    let cases : length (cases_of u) / case_size ≡ (header_of u).counts.cases = omega (arith, l.cases) in
    rw (metadata, l.types, constants, cases)

wide-by-lengths : (u : List ℕ) → Lengths u → lowest_below (length (metadata_of u) / metadata_size) (λ k. is_wide_select (metadata_at (metadata_of u) k)) ≡ wide_select u
unfolding wide_select
wide-by-lengths u l = let metadata : length (metadata_of u) / metadata_size ≡ (header_of u).counts.metadata = omega (arith, l.metadata) in rw metadata

pub part-requires-clause-within : goal.part-requires-clause-within
unfolding header_of
part-requires-clause-within c = (within _ _ c.requires).metadata

pub part-requires-2-clause-within : goal.part-requires-2-clause-within
unfolding header_of
part-requires-2-clause-within c = let w = within _ _ c.requires in omega (arith, w.types)

pub part-requires-3-clause-within : goal.part-requires-3-clause-within
unfolding header_of
part-requires-3-clause-within c = (within _ _ c.requires).constants

pub part-requires-4-clause-within : goal.part-requires-4-clause-within
unfolding header_of
part-requires-4-clause-within c = (within _ _ c.requires).cases

pub returns : goal.returns
unfolding header_of
returns c =
    let sizes = lengths _ (within _ _ c.requires) in (
      rw (
        c.sweep_metadata-metadata.ensures.0,
        c.every_type.ensures,
        c.every_constant.ensures,
        c.every_case.ensures,
        c.part.ensures,
        c.part-2.ensures,
        c.part-3.ensures,
        c.part-4.ensures,
        c.word.ensures.0,
        one-mul,
      )
          (by_lengths c.args.unit.now sizes),
      rw (c.sweep_metadata-metadata.ensures.1, c.part.ensures) (wide-by-lengths c.args.unit.now sizes),
    )
