-- The three steps one after the other: what they leave are the retained places.
-- Assumes nothing.
use Rattle.std.specs.Prelude.{◌≡◌, drop}
use Rattle.std.proofs.Math.Path.{sym, ap}
use Rattle.std.proofs.Common.{◌∙◌, add-zero, zero-add, arith, drop_at}
use mathlib.Core.List.{List, ◌++◌}
use Prim.Native.Nat.{ℕ, ◌+◌, ◌*◌, ◌-◌, ◌≤◌}
use Rattle.std.proofs.Math.ListN.{length, take, length-append}
use Rattle.std.proofs.Math.Seq.{take_at, take-length}
use borrow.Rule.Slice.PartMut.{mid_of, put_mid}
use Rattle.words.specs.laws.Lists.{length_tabulate}
use Rattle.words.specs.laws.Only.{mid_mid, back_within, back_before}
use Rattle.words.specs.laws.Regions.{mid_long, put_long, drop_behind}
use Rattle.unit.specs.laws.Region.{keep_at, loop_ends_in, list_in}
use Rattle.unit.specs.Size.{metadata_size, max_instructions}
use Rattle.effects.specs.Shape.{Sections, Cell}
use Rattle.effects.specs.laws.Cells.{cells_by, cells_long}
use Rattle.flow.specs.laws.Control.{Controls}
use Rattle.flow.specs.laws.Flags.{Flags}
use Rattle.flow.specs.Loop.{anchors}
use Rattle.liveness.specs.Dead.{dead_stores}
use Rattle.pc_map.specs.Boundary.{boundary}
use Rattle.liveness.specs.laws.Sweep.{dead_flags, dead_long}
use Rattle.run.specs.laws.Jumps.{rounds_flags, rounds_long}
use Rattle.run.proofs.laws.Optimized.{useful_flags, useful_long}
use Rattle.answer.specs.Jump.{jump_rounds}
use Rattle.answer.specs.Pass.{kept_places, useful_places}
use Rattle.removal.specs.laws.Jumping.{Rounds, ends_in, map_of}
use Rattle.removal.specs.laws.KeptWork.{Useful, Stored, Retainable, Retains}

-- what dropping hints asks, with the parts' lengths as the code has them
pub hints_asks : {S : Sections} {leads marks : List ℕ} (n k at count m : ℕ) (metadata work32 work64 : List ℕ) → k ≡ n → m ≡ count
    → Retainable S n (mid_of 0 n work64) metadata leads marks (length work32) at → at + count ≤ length work64 → Controls (mid_of 0 n work64) (mid_of at count work64) n
    → (length (mid_of 0 k work64) ≤ max_instructions)
    × (metadata_size * length (mid_of 0 k work64) ≤ length metadata)
    × (list_in (length (mid_of 0 k work64)) ≤ length (mid_of (keep_at n) (length work32 - keep_at n) work32))
    × Controls (mid_of 0 k work64) (mid_of at m work64) (length (mid_of 0 k work64))
hints_asks n k at count m metadata work32 work64 e f d room c =
    let size : length (mid_of 0 n work64) ≡ n = mid_long work64 0 n (omega (arith, d.long64)) in
    let rest : length (mid_of (keep_at n) (length work32 - keep_at n) work32) ≡ length work32 - keep_at n = mid_long work32 (keep_at n) (length work32 - keep_at n) (omega (arith, d.long32)) in
    rw (e, f, size, rest) (d.few, omega (arith, d.entries), omega (arith, d.long32), c)

-- the part of the 64-bit work before that list, which dead stores are dropped in, is as long as `at` says
module _ (S : Sections) (n k : ℕ) (metadata work32 work64 hinted : List ℕ) (at l : ℕ) (e : k ≡ n) (f : l ≡ at) (within : at ≤ length work64)
    (d : Retainable S n (mid_of 0 n work64) metadata (mid_of 0 n work32) (mid_of (keep_at n) n work32) (length work32) at)
    (size : length hinted ≡ length (mid_of (keep_at n) (length work32 - keep_at n) work32)) (u : Useful (mid_of 0 k work64) metadata (mid_of (keep_at n) (length work32 - keep_at n) work32) hinted) where
  abbrev words : List ℕ
  words = mid_of 0 n work64

  abbrev cells : List Cell
  cells = cells_by words metadata

  abbrev marks : List ℕ
  marks = mid_of (keep_at n) n work32

  code_long : length (mid_of 0 n work64) ≡ n
  code_long = mid_long work64 0 n (omega (arith, d.long64, within))

  front_long : length (mid_of 0 l work64) ≡ at
  front_long = mid_long work64 0 l (omega (arith, f, within)) ∙ f

  front_code : mid_of 0 n (mid_of 0 l work64) ≡ mid_of 0 n work64
  front_code = mid_mid work64 0 l 0 n (omega (arith, f, within)) (omega (arith, f, d.long64))

  cells_size : length cells ≡ n
  cells_size = cells_long words metadata ∙ code_long

  marks_long : length (mid_of (keep_at n) n work32) ≡ n
  marks_long = mid_long work32 (keep_at n) n (omega (arith, d.long32))

  -- the part from the kept places on
  abbrev rest : ℕ
  rest = length work32 - keep_at n

  fits : keep_at n + rest ≤ length work32
  fits = omega (arith, d.long32)

  hinted_long : length hinted ≡ rest
  hinted_long = size ∙ mid_long work32 (keep_at n) rest fits

  part_marks : mid_of 0 n (mid_of (keep_at n) rest work32) ≡ marks
  part_marks = mid_mid work32 (keep_at n) rest 0 n fits (omega (arith, d.long32)) ∙ ap (λ (m : ℕ). mid_of m n work32) (add-zero (keep_at n))

  abbrev now₁ : List ℕ
  now₁ = put_mid (keep_at n) rest work32 hinted

  long₁ : length now₁ ≡ length work32
  long₁ = put_long work32 (keep_at n) rest hinted hinted_long fits

  leads₁ : mid_of 0 n now₁ ≡ mid_of 0 n work32
  leads₁ = back_before work32 (keep_at n) rest hinted fits hinted_long 0 n (omega arith)

  useful : Useful (mid_of 0 n work64) metadata (mid_of (keep_at n) rest work32) hinted
  useful = rw e at u

  keep₁ : mid_of (keep_at n) n now₁ ≡ useful_places marks cells
  keep₁ =
      ap (λ (m : ℕ). mid_of m n now₁) (sym (add-zero (keep_at n)))
      ∙ back_within work32 (keep_at n) rest hinted fits hinted_long 0 n (omega (arith, d.long32))
      ∙ (rw code_long at useful.keep) ∙ ap (λ (l : List ℕ). useful_places l cells) part_marks

  ends₁ : mid_of (keep_at n + loop_ends_in n) n now₁ ≡ anchors marks cells
  ends₁ =
      back_within work32 (keep_at n) rest hinted fits hinted_long (loop_ends_in n) n (omega (arith, d.long32))
      ∙ (rw code_long at useful.ends) ∙ ap (λ (l : List ℕ). anchors l cells) part_marks

  pub hints_retainable : Retainable S n (mid_of 0 n (mid_of 0 l work64)) metadata (mid_of 0 n (put_mid (keep_at n) (length work32 - keep_at n) work32 hinted))
      (mid_of (keep_at n) n (put_mid (keep_at n) (length work32 - keep_at n) work32 hinted)) (length (put_mid (keep_at n) (length work32 - keep_at n) work32 hinted)) (length (mid_of 0 l work64))
  hints_retainable = rw (leads₁, keep₁, long₁, front_code, front_long) (record {
    some = d.some;
    few = d.few;
    typed = d.typed;
    slots = d.slots;
    entries = d.entries;
    good = d.good;
    flags = d.flags;
    one = d.one;
    marked = useful_flags marks cells d.marked;
    operands = d.operands;
    inside = d.inside;
    long32 = d.long32;
    long64 = d.long64;
  })

  -- after dead stores
  module _ (work32' front : List ℕ) (long32 : length work32' ≡ length (put_mid (keep_at n) (length work32 - keep_at n) work32 hinted)) (long64 : length front ≡ length (mid_of 0 l work64))
      (st : Stored S n metadata (put_mid (keep_at n) (length work32 - keep_at n) work32 hinted) (mid_of 0 l work64) work32' front) where
    abbrev work64' : List ℕ
    work64' = put_mid 0 l work64 front

    abbrev dead : List ℕ
    dead = dead_stores S (mid_of 0 n work32) (useful_places marks cells) cells

    keep₂ : mid_of (keep_at n) n work32' ≡ dead_stores S (mid_of 0 n work32) (useful_places marks cells) cells
    keep₂ = st.keep ∙ rw (leads₁, keep₁, front_code)

    dead_size : length dead ≡ n
    dead_size = dead_long S (mid_of 0 n work32) (useful_places marks cells) cells (useful_long marks cells) ∙ cells_size

    dead_ok : Flags dead
    dead_ok = dead_flags S (mid_of 0 n work32) (useful_places marks cells) cells (useful_flags marks cells d.marked)

    ends₂ : mid_of (keep_at n + loop_ends_in n) n work32' ≡ anchors marks cells
    ends₂ = st.ends ∙ ends₁

    code₂ : mid_of 0 n work64' ≡ mid_of 0 n work64
    code₂ =
        back_within work64 0 l front (omega (arith, f, within)) (long64 ∙ front_long ∙ sym f) 0 n (omega (arith, f, d.long64))
        ∙ st.code ∙ front_code

    -- what lies behind the part is as it was
    pub behind_same : drop at (put_mid 0 l work64 front) ≡ drop at work64
    behind_same = drop_behind work64 front at l f (long64 ∙ front_long)

    pub stores_long : length work32' ≡ length work32
    stores_long = long32 ∙ long₁

    abbrev rest₂ : ℕ
    rest₂ = length work32' - keep_at n

    fits₂ : keep_at n + rest₂ ≤ length work32'
    fits₂ = omega (arith, stores_long, d.long32)

    rest_long : length (mid_of (keep_at n) rest₂ work32') ≡ rest₂
    rest_long = mid_long work32' (keep_at n) rest₂ fits₂

    many : list_in n ≤ rest₂
    many = omega (arith, stores_long, d.long32)

    code_size : length (mid_of 0 k work64') ≡ n
    code_size = ap (λ (j : ℕ). length (mid_of 0 j work64')) e ∙ ap length code₂ ∙ code_long

    same_code_lem : mid_of 0 k work64' ≡ words
    same_code_lem = ap (λ (j : ℕ). mid_of 0 j work64') e ∙ code₂

    part_keep : mid_of 0 n (mid_of (keep_at n) rest₂ work32') ≡ mid_of (keep_at n) n work32'
    part_keep = mid_mid work32' (keep_at n) rest₂ 0 n fits₂ (omega (arith, many)) ∙ ap (λ (m : ℕ). mid_of m n work32') (add-zero (keep_at n))

    part_ends : ends_in n (mid_of (keep_at n) rest₂ work32') ≡ anchors marks cells
    part_ends = mid_mid work32' (keep_at n) rest₂ (loop_ends_in n) n fits₂ (omega (arith, many)) ∙ ends₂

    pub jumps_asks : (count m : ℕ) → m ≡ count → Controls (mid_of 0 n work64) (mid_of at count work64) n
        → Rounds (mid_of 0 k (put_mid 0 l work64 front)) (length (mid_of (keep_at n) (length work32' - keep_at n) work32'))
        × Controls (mid_of 0 k (put_mid 0 l work64 front)) (mid_of at m (put_mid 0 l work64 front)) (length (mid_of 0 k (put_mid 0 l work64 front)))
        × Flags (mid_of 0 (length (mid_of 0 k (put_mid 0 l work64 front))) (mid_of (keep_at n) (length work32' - keep_at n) work32'))
    jumps_asks count m g c = (
      record { few = rw code_size d.few; long = rw (code_size, rest_long) many; inside = rw same_code_lem d.inside },
      rw (code_size, same_code_lem, behind_same, g) c,
      rw (code_size, part_keep, keep₂) dead_ok,
    )

    module _ (jumped : List ℕ) (jumped-size : length jumped ≡ length (mid_of (keep_at n) (length work32' - keep_at n) work32'))
        (j : (metadata keep : List ℕ)
        → keep
        ≡ jump_rounds 16 (ends_in (length (mid_of 0 k (put_mid 0 l work64 front))) (mid_of (keep_at n) (length work32' - keep_at n) work32')) (cells_by (mid_of 0 k (put_mid 0 l work64 front)) metadata)
        (mid_of 0 (length (mid_of 0 k (put_mid 0 l work64 front))) (mid_of (keep_at n) (length work32' - keep_at n) work32'))
        → jumped ≡ put_mid 0 (loop_ends_in (length (mid_of 0 k (put_mid 0 l work64 front)))) (mid_of (keep_at n) (length work32' - keep_at n) work32') (keep ++ map_of keep)) where
      pub jumps_retained : Retains S n metadata work32 work64 (put_mid (keep_at n) (length work32' - keep_at n) work32' jumped) (put_mid 0 l work64 front)
      unfolding kept_places
      jumps_retained =
          let keep : List ℕ = jump_rounds 16 (anchors marks cells) cells dead in
          let keep_size : length keep ≡ n = rounds_long (anchors marks cells) cells 16 dead (dead_size ∙ sym cells_size) ∙ cells_size in
          let is : jumped ≡ put_mid 0 (loop_ends_in n) (mid_of (keep_at n) rest₂ work32') (keep ++ map_of keep) =
          j metadata keep (rw (code_size, part_ends, same_code_lem, part_keep, keep₂)) ∙ ap (λ (m : ℕ). put_mid 0 (loop_ends_in m) (mid_of (keep_at n) rest₂ work32') (keep ++ map_of keep)) code_size in
          let map_size : length (map_of keep) ≡ n + 1 = length_tabulate (length keep + 1) (boundary keep) ∙ ap (λ (m : ℕ). m + 1) keep_size in
          let both : length (keep ++ map_of keep) ≡ loop_ends_in n = length-append keep (map_of keep) ∙ omega (arith, keep_size, map_size) in
          let inner : 0 + loop_ends_in n ≤ length (mid_of (keep_at n) rest₂ work32') = omega (arith, rest_long, many) in
          let jumped_long : length jumped ≡ rest₂ = jumped-size ∙ rest_long in
          let final : List ℕ = put_mid (keep_at n) rest₂ work32' jumped in
          let at : mid_of (keep_at n) n final ≡ keep =
          ap (λ (m : ℕ). mid_of m n final) (sym (add-zero (keep_at n)))
          ∙ back_within work32' (keep_at n) rest₂ jumped fits₂ jumped_long 0 n (omega (arith, many))
          ∙ ap (λ (l : List ℕ). mid_of 0 n l) is
          ∙ back_within (mid_of (keep_at n) rest₂ work32') 0 (loop_ends_in n) (keep ++ map_of keep) inner both 0 n (omega arith)
          ∙ take_at keep (map_of keep) n keep_size in
          let bounds : mid_of (keep_at n + n) (n + 1) final ≡ map_of keep =
          back_within work32' (keep_at n) rest₂ jumped fits₂ jumped_long n (n + 1) (omega (arith, many))
          ∙ ap (λ (l : List ℕ). mid_of n (n + 1) l) is
          ∙ ap (λ (m : ℕ). mid_of m (n + 1) (put_mid 0 (loop_ends_in n) (mid_of (keep_at n) rest₂ work32') (keep ++ map_of keep))) (sym (zero-add n))
          ∙ back_within (mid_of (keep_at n) rest₂ work32') 0 (loop_ends_in n) (keep ++ map_of keep) inner both n (n + 1) (omega arith)
          ∙ ap (take (n + 1)) (drop_at keep (map_of keep) n keep_size)
          ∙ ap (λ (m : ℕ). take m (map_of keep)) (sym map_size) ∙ take-length (map_of keep) in
          record {
            keep = at;
            flags = rw at (rounds_flags (anchors marks cells) cells 16 dead dead_ok);
            bounds = bounds ∙ ap map_of (sym at);
            code = code₂;
          }
