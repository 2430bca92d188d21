-- An empty table of values: what two regions of 0 and the first epoch say.
-- Assumes nothing.
use mathlib.Core.Path.{◌≡◌, sym, ap, ◌∙◌}
use mathlib.Core.List.{List}
use Prim.Native.Nat.{ℕ, ◌+◌, ◌*◌, ◌-◌, ◌/◌, ◌≤◌, ◌<◌}
use native.Mathlib.Omega.{arith}
use lib.ListN.{length, get_or, set, length-set, replicate, length-replicate, get_or-replicate}
use lib.Seq.{get_or-set_same, get_or-set_other}
use borrow.Rule.Slice.PartMut.{put_mid, mid_of}
use Rattle.words.specs.laws.Regions.{mid_long, get_mid, get_before}
use Rattle.values.specs.laws.Entries.{Linked}
use Rattle.values.specs.laws.Adding.{no_entries}
use Rattle.values.specs.laws.Memory.{slots_at, bounds_at, constants_at, expressions_at, end_at, memory_of}
use Rattle.numbering.specs.laws.Walk.{Begins}
use Rattle.values.proofs.Parts.{put_length, part_put}
use Rattle.values.proofs.Holding.{nothing_ordered, nothing_holds}

-- the elements of a region that was filled with 0
zero_put : (a e : ℕ) (t u : List ℕ) (k : ℕ) → a ≤ e → e ≤ length t → k ≡ e - a → u ≡ replicate k 0 → (i : ℕ) → a ≤ i → i < e → get_or (put_mid a (e - a) t u) i 0 ≡ 0
zero_put a e t u k from to q z i l m =
    let long : length u ≡ e - a = ap length z ∙ length-replicate k 0 ∙ q in
    let at : i ≡ a + (i - a) = omega arith in
    let inner : i - a < e - a = omega arith in
    let below : i - a < k = omega arith in
    rw at
    (sym (get_mid (put_mid a (e - a) t u) a (e - a) (i - a) 0 inner)
    ∙ ap (λ (x : List ℕ). get_or x (i - a) 0) (part_put a e t u from to long ∙ z)
    ∙ get_or-replicate k (i - a) 0 0 below)

module _ (n S : ℕ) (t u w : List ℕ) (some : 0 < n) (few : n ≤ 65536) (locals : S ≤ 65536) (long : end_at n S ≤ length t) where
  abbrev heads : ℕ
  heads = constants_at n S + n

  abbrev last : ℕ
  last = expressions_at n S + n

  module _ (k l : ℕ) (ku : k ≡ heads - 0) (lw : l ≡ last - expressions_at n S) (zu : u ≡ replicate k 0) (zw : w ≡ replicate l 0) where
    abbrev t₁ : List ℕ
    t₁ = put_mid 0 (heads - 0) t u

    abbrev t₂ : List ℕ
    t₂ = put_mid (expressions_at n S) (last - expressions_at n S) t₁ w

    abbrev t₃ : List ℕ
    t₃ = set t₂ 0 1

    long_u : length u ≡ heads - 0
    long_u = ap length zu ∙ length-replicate k 0 ∙ ku

    long_w : length w ≡ last - expressions_at n S
    long_w = ap length zw ∙ length-replicate l 0 ∙ lw

    length₁ : length t₁ ≡ length t
    length₁ = put_length 0 heads t u (omega arith) (omega arith) long_u

    room : last ≤ length t₁
    room = rw length₁ (omega arith)

    length₂ : length t₂ ≡ length t
    length₂ = put_length (expressions_at n S) last t₁ w (omega arith) room long_w ∙ length₁

    length₃ : length t₃ ≡ length t
    length₃ = length-set t₂ 0 1 ∙ length₂

    epoch : get_or t₃ 0 0 ≡ 1
    epoch = get_or-set_same t₂ 0 1 0 (omega (arith, length₂, long))

    low : (i : ℕ) → 0 < i → i < heads → get_or t₃ i 0 ≡ 0
    low i g h =
        let inside : expressions_at n S + (last - expressions_at n S) ≤ length t₁ = omega (arith, room) in
        get_or-set_other t₂ 0 i 1 0 (λ e. omega arith)
        ∙ get_before t₁ (expressions_at n S) (last - expressions_at n S) w long_w inside i 0 (omega arith)
        ∙ zero_put 0 heads t u k (omega arith) (omega arith) ku zu i (omega arith) h

    high : (i : ℕ) → expressions_at n S ≤ i → i < last → get_or t₃ i 0 ≡ 0
    high i g h = get_or-set_other t₂ 0 i 1 0 (λ e. omega arith) ∙ zero_put (expressions_at n S) last t₁ w l (omega arith) room lw zw i g h

    end : end_at n S ≤ length t₃
    end = rw length₃ long

    linked : Linked (memory_of n S t₃).constant_table n (memory_of n S t₃).epoch 0
    linked =
        let size : length (memory_of n S t₃).constant_table ≡ expressions_at n S - constants_at n S = mid_long t₃ (constants_at n S) (expressions_at n S - constants_at n S) (omega (arith, end)) in
        rw epoch
        (no_entries (memory_of n S t₃).constant_table n some few (omega arith)
        (λ b h. get_mid t₃ (constants_at n S) (expressions_at n S - constants_at n S) b 0 (omega arith) ∙ low (constants_at n S + b) (omega arith) (omega arith)))

    terms : Linked (memory_of n S t₃).expression_table n (memory_of n S t₃).epoch 0
    terms =
        let size : length (memory_of n S t₃).expression_table ≡ end_at n S - expressions_at n S = mid_long t₃ (expressions_at n S) (end_at n S - expressions_at n S) (omega (arith, end)) in
        rw epoch
        (no_entries (memory_of n S t₃).expression_table n some few (omega arith)
        (λ b h. get_mid t₃ (expressions_at n S) (end_at n S - expressions_at n S) b 0 (omega arith) ∙ high (expressions_at n S + b) (omega arith) (omega arith)))

    slots : (s : ℕ) → s < S → get_or t₃ (slots_at + s) 0 / 4294967296 < get_or t₃ 0 0
    slots s h = rw (low (slots_at + s) (omega arith) (omega arith), epoch) (omega arith)

    bounds : (x : ℕ) → x < 2 * (S + 2 * n + 1) → get_or t₃ (bounds_at S + x) 0 / 4294967296 < get_or t₃ 0 0
    bounds x h = rw (low (bounds_at S + x) (omega arith) (omega arith), epoch) (omega arith)

    constants : get_or t₃ 1 0 ≡ 0
    constants = low 1 (omega arith) (omega arith)

    expressions : get_or t₃ 2 0 ≡ 0
    expressions = low 2 (omega arith) (omega arith)

    begun : Begins n S t t₃
    begun =
        record {
          ready = record { long = end; order = nothing_ordered n S few (memory_of n S t₃) locals constants expressions linked terms slots bounds };
          long = length₃;
          epoch = epoch;
          constants = constants;
          expressions = expressions;
          holds = nothing_holds n S few (memory_of n S t₃) locals constants expressions linked terms slots bounds;
        }

  -- what the code of `begin` is proved by
  pub begins : u ≡ replicate (length (mid_of 0 (constants_at n S + n - 0) t)) 0
      → w ≡ replicate (length (mid_of (expressions_at n S) (expressions_at n S + n - expressions_at n S) (put_mid 0 (constants_at n S + n - 0) t u))) 0
      → Begins n S t (set (put_mid (expressions_at n S) (expressions_at n S + n - expressions_at n S) (put_mid 0 (constants_at n S + n - 0) t u) w) 0 1)
  begins zu zw =
      let ku : length (mid_of 0 (heads - 0) t) ≡ heads - 0 = mid_long t 0 (heads - 0) (omega arith) in
      let long_u : length u ≡ heads - 0 = ap length zu ∙ length-replicate (length (mid_of 0 (heads - 0) t)) 0 ∙ ku in
      let same : length (put_mid 0 (heads - 0) t u) ≡ length t = put_length 0 heads t u (omega arith) (omega arith) long_u in
      let inside : expressions_at n S + (last - expressions_at n S) ≤ length (put_mid 0 (heads - 0) t u) = rw same (omega arith) in
      begun _ _ ku (mid_long (put_mid 0 (heads - 0) t u) (expressions_at n S) (last - expressions_at n S) inside) zu zw
