-- The three steps that drop places, in lent memory.
-- Assumes nothing.
use Rattle.std.specs.Prelude.{◌≡◌, refl, List, [], ◌∷◌, ◌++◌, ℕ, ◌+◌, ◌*◌, ◌^◌, ◌≤◌, ◌<◌, length, set, replicate}
use Rattle.std.proofs.Common.{sym, ap, ◌∙◌, zero-add, arith, length-set}
use Rattle.std.proofs.lemmas.List.{length-replicate}
use borrow.Rule.Slice.PartMut.{mid_of, put_mid, post_of}
use Rattle.words.specs.laws.Only.{mid_mid, back_within, back_before, back_after}
use Rattle.words.specs.laws.Regions.{mid_long, put_long, mid_put}
use Rattle.unit.specs.laws.Region.{starts_at, keep_at, loop_ends_in, list_in}
use Rattle.unit.specs.Size.{sets_room}
use Rattle.effects.specs.Shape.{Sections, Cell}
use Rattle.effects.specs.laws.Cells.{cells_by, cells_long}
use Rattle.flow.specs.laws.Blocks.{Numbered, numbered_start}
use Rattle.flow.specs.laws.Flags.{Flags}
use Rattle.flow.specs.Loop.{anchors, loop_ends}
use Rattle.flow.specs.Reach.{mark_all}
use Rattle.flow.specs.laws.Marks.{Marked}
use Rattle.liveness.specs.Dead.{dead_stores}
use Rattle.liveness.specs.laws.Droppable.{Droppable}
use Rattle.liveness.specs.laws.Sweep.{dead_long}
use Rattle.run.proofs.laws.Optimized.{useful_long}
use Rattle.answer.specs.Pass.{useful_places}
use Rattle.removal.specs.laws.KeptWork.{Useful, Stored, Retainable}

mark_long : (l qs : List ℕ) → length (mark_all l qs) ≡ length l
unfolding mark_all
mark_long l [] = refl
mark_long l (q ∷ qs) = mark_long (set l q 1) qs ∙ length-set l q 1

anchors_long : (marks : List ℕ) (cells : List Cell) → length (anchors marks cells) ≡ length cells
unfolding anchors
anchors_long marks cells = mark_long (replicate (length cells) 0) (loop_ends 0 marks cells) ∙ length-replicate (length cells) 0

-- ---- plain hints
pub hints_useful : (words metadata work work₁ keep : List ℕ) (k : ℕ) → k ≡ length words → list_in (length words) ≤ length work
    → work₁ ≡ put_mid (loop_ends_in (length words)) (length words) work (anchors (mid_of 0 (length words) work) (cells_by words metadata))
    → keep ≡ useful_places (mid_of 0 k work₁) (cells_by words metadata)
    → Useful words metadata work (keep ++ post_of 0 k work₁)
hints_useful words metadata work work₁ keep k e room a u =
    let n = length words in
    let cells = cells_by words metadata in
    let long : length (anchors (mid_of 0 n work) cells) ≡ n = anchors_long (mid_of 0 n work) cells ∙ cells_long words metadata in
    let fits : loop_ends_in n + n ≤ length work = omega arith in
    let whole : length work₁ ≡ length work = ap length a ∙ put_long work (loop_ends_in n) n (anchors (mid_of 0 n work) cells) long fits in
    let marks : mid_of 0 n work₁ ≡ mid_of 0 n work = ap (λ (l : List ℕ). mid_of 0 n l) a ∙ back_before work (loop_ends_in n) n (anchors (mid_of 0 n work) cells) fits long 0 n (omega arith) in
    let kept : keep ≡ useful_places (mid_of 0 n work) cells = u ∙ rw (e, marks) in
    let size : length keep ≡ k = ap length kept ∙ useful_long (mid_of 0 n work) cells ∙ cells_long words metadata ∙ sym e in
    let room₁ : 0 + k ≤ length work₁ = omega (arith, whole) in
    record {
      keep = ap (λ (j : ℕ). mid_of 0 j (put_mid 0 k work₁ keep)) (sym e) ∙ mid_put work₁ 0 k keep size room₁ ∙ kept;
      ends = back_after work₁ 0 k keep room₁ size (loop_ends_in n) n (omega arith) (omega (arith, whole)) ∙ ap (λ (l : List ℕ). mid_of (loop_ends_in n) n l) a ∙ mid_put work (loop_ends_in n) n (anchors (mid_of 0 n work) cells) long fits;
    }

-- ---- dead stores
module _ (S : Sections) (n : ℕ) (words metadata work32 : List ℕ) (room64 : ℕ)
    (d : Retainable S n words metadata (mid_of 0 n work32) (mid_of (keep_at n) n work32) (length work32) room64) (long : length words ≡ n) where
  room : keep_at n + n ≤ length work32
  room = omega (arith, d.long32)

  front_long : length (mid_of 0 (keep_at n) work32) ≡ keep_at n
  front_long = mid_long work32 0 (keep_at n) (omega (arith, room))

  front_part : (b i : ℕ) → b + i ≤ keep_at n → mid_of b i (mid_of 0 (keep_at n) work32) ≡ mid_of b i work32
  front_part b i h = mid_mid work32 0 (keep_at n) b i (omega (arith, room)) h ∙ ap (λ (m : ℕ). mid_of m i work32) (zero-add b)

  pub blocks_asks : (k : ℕ) → k ≡ keep_at n → Flags (mid_of 0 n (mid_of 0 k work32)) × Marked (mid_of 0 n (mid_of 0 k work32)) 0 × (n < 2 ^ 32) × (keep_at n ≤ length (mid_of 0 k work32))
  blocks_asks k e = rw (e, front_part 0 n (omega arith), front_long) (d.flags, d.one, omega (arith, d.few), omega arith)

  -- what the numbering of blocks left
  module _ (count : ℕ) (blocked : List ℕ) (size : length blocked ≡ keep_at n)
      (b : Numbered (mid_of 0 n (mid_of 0 (keep_at n) work32)) (mid_of n n blocked) (mid_of (starts_at n) (n + 1) (mid_of 0 (keep_at n) work32)) (mid_of (starts_at n) (n + 1) blocked) count)
      (o : blocked ≡ put_mid n (2 * n + 1) (mid_of 0 (keep_at n) work32) (mid_of n (2 * n + 1) blocked)) where
    abbrev now : List ℕ
    now = put_mid 0 (keep_at n) work32 blocked

    fits : 0 + keep_at n ≤ length work32
    fits = omega (arith, room)

    same : length (put_mid 0 (keep_at n) work32 blocked) ≡ length work32
    same = put_long work32 0 (keep_at n) blocked size fits

    part_now : (b i : ℕ) → b + i ≤ keep_at n → mid_of b i (mid_of 0 (keep_at n + n) now) ≡ mid_of b i blocked
    part_now b i h = mid_mid now 0 (keep_at n + n) b i (omega (arith, same, room)) (omega arith) ∙ back_within work32 0 (keep_at n) blocked fits size b i h

    region : length (mid_of n (2 * n + 1) blocked) ≡ 2 * n + 1
    region = mid_long blocked n (2 * n + 1) (omega (arith, size))

    leads_now : mid_of 0 n (mid_of 0 (keep_at n + n) now) ≡ mid_of 0 n work32
    leads_now = part_now 0 n (omega arith) ∙ ap (λ (l : List ℕ). mid_of 0 n l) o
        ∙ back_before (mid_of 0 (keep_at n) work32) n (2 * n + 1) (mid_of n (2 * n + 1) blocked) (omega (arith, front_long)) region 0 n (omega arith) ∙ front_part 0 n (omega arith)

    keep_now : mid_of (keep_at n) n (mid_of 0 (keep_at n + n) now) ≡ mid_of (keep_at n) n work32
    keep_now = mid_mid now 0 (keep_at n + n) (keep_at n) n (omega (arith, same, room)) (omega arith) ∙ ap (λ (m : ℕ). mid_of m n now) (zero-add (keep_at n))
        ∙ back_after work32 0 (keep_at n) blocked fits size (keep_at n) n (omega arith) room

    numbers : Numbered (mid_of 0 n work32) (mid_of n n blocked) (mid_of (starts_at n) (n + 1) (mid_of 0 (keep_at n) work32)) (mid_of (starts_at n) (n + 1) blocked) count
    numbers = rw (front_part 0 n (omega arith)) at b

    leads_long : length (mid_of 0 n work32) ≡ n
    leads_long = mid_long work32 0 n (omega (arith, room))

    pub stores_known : Droppable S.tables n count words metadata S.types (mid_of 0 n (mid_of 0 (keep_at n + n) now)) (mid_of n n (mid_of 0 (keep_at n + n) now))
        (mid_of (starts_at n) (n + 1) (mid_of 0 (keep_at n + n) now)) (mid_of (keep_at n) n (mid_of 0 (keep_at n + n) now))
    stores_known = rw (leads_now, part_now n n (omega arith), part_now (starts_at n) (n + 1) (omega arith), keep_now) (record {
      some = omega (arith, d.some);
      most = d.few;
      few = rw d.typed d.slots;
      entries = omega (arith, d.entries);
      long_words = long;
      long_leaders = leads_long;
      long_blocks = mid_long blocked n n (omega (arith, size));
      long_starts = mid_long blocked (starts_at n) (n + 1) (omega (arith, size));
      long_keep = mid_long work32 (keep_at n) n room;
      flags = d.flags;
      one = d.one;
      keep_flags = d.marked;
      total = numbers.counted;
      numbers = rw leads_long at numbers.numbers;
      places = λ b h. numbered_start (mid_of 0 n work32) (mid_of n n blocked) _ (mid_of (starts_at n) (n + 1) blocked) count d.flags numbers b (rw (← numbers.counted) h);
      good = d.good;
      operands = rw d.typed d.operands;
      inside = rw long at d.inside;
    })

    pub stores_room : keep_at n + n ≤ length (mid_of 0 (keep_at n + n) (put_mid 0 (keep_at n) work32 blocked))
    stores_room = rw (mid_long now 0 (keep_at n + n) (omega (arith, same, room))) (omega arith)

    -- and what dead stores leave then
    module _ (work64 work64' stored : List ℕ) (code : words ≡ mid_of 0 n work64)
        (kept : stored ≡ put_mid (keep_at n) n (mid_of 0 (keep_at n + n) now) (dead_stores S (mid_of 0 n (mid_of 0 (keep_at n + n) now)) (mid_of (keep_at n) n (mid_of 0 (keep_at n + n) now)) (cells_by words metadata)))
        (still : mid_of 0 n work64' ≡ mid_of 0 n work64) where
      abbrev dead : List ℕ
      dead = dead_stores S (mid_of 0 n work32) (mid_of (keep_at n) n work32) (cells_by words metadata)

      pub stores_stored : Stored S n metadata work32 work64 (put_mid 0 (keep_at n + n) now stored) work64'
      stores_stored =
          let whole : length (mid_of 0 (keep_at n + n) now) ≡ keep_at n + n = mid_long now 0 (keep_at n + n) (omega (arith, same, room)) in
          let cells : length (cells_by words metadata) ≡ n = cells_long words metadata ∙ long in
          let size_dead : length dead ≡ n = dead_long _ (mid_of 0 n work32) (mid_of (keep_at n) n work32) (cells_by words metadata) (mid_long work32 (keep_at n) n room ∙ sym cells) ∙ cells in
          let at : stored ≡ put_mid (keep_at n) n (mid_of 0 (keep_at n + n) now) dead = kept ∙ rw (leads_now, keep_now) in
          let inner : keep_at n + n ≤ length (mid_of 0 (keep_at n + n) now) = omega (arith, whole) in
          let size_stored : length stored ≡ keep_at n + n = ap length at ∙ put_long (mid_of 0 (keep_at n + n) now) (keep_at n) n dead size_dead inner ∙ whole in
          let outer : 0 + (keep_at n + n) ≤ length now = omega (arith, same, room) in
          record {
            keep =
                ap (λ (m : ℕ). mid_of m n (put_mid 0 (keep_at n + n) now stored)) (sym (zero-add (keep_at n)))
                ∙ back_within now 0 (keep_at n + n) stored outer size_stored (keep_at n) n (omega arith)
                ∙ ap (λ (l : List ℕ). mid_of (keep_at n) n l) at
                ∙ mid_put (mid_of 0 (keep_at n + n) now) (keep_at n) n dead size_dead inner
                ∙ ap (λ (l : List ℕ). dead_stores S (mid_of 0 n work32) (mid_of (keep_at n) n work32) (cells_by l metadata)) code;
            ends =
                back_after now 0 (keep_at n + n) stored outer size_stored (keep_at n + loop_ends_in n) n (omega arith) (omega (arith, same, d.long32))
                ∙ back_after work32 0 (keep_at n) blocked fits size (keep_at n + loop_ends_in n) n (omega arith) (omega (arith, d.long32));
            code = still;
          }

-- the same, with the parts' lengths as the code has them
module _ (S : Sections) (n k j : ℕ) (words metadata work32 : List ℕ) (room64 : ℕ) (e : k ≡ keep_at n) (f : j ≡ keep_at n + n)
    (d : Retainable S n words metadata (mid_of 0 n work32) (mid_of (keep_at n) n work32) (length work32) room64) (long : length words ≡ n)
    (count : ℕ) (blocked : List ℕ) (size : length blocked ≡ length (mid_of 0 k work32))
    (b : Numbered (mid_of 0 n (mid_of 0 k work32)) (mid_of n n blocked) (mid_of (starts_at n) (n + 1) (mid_of 0 k work32)) (mid_of (starts_at n) (n + 1) blocked) count)
    (o : blocked ≡ put_mid n (2 * n + 1) (mid_of 0 k work32) (mid_of n (2 * n + 1) blocked)) where
  size' : length blocked ≡ keep_at n
  size' = rw e at size ∙ front_long S n words metadata work32 room64 d long

  b' : Numbered (mid_of 0 n (mid_of 0 (keep_at n) work32)) (mid_of n n blocked) (mid_of (starts_at n) (n + 1) (mid_of 0 (keep_at n) work32)) (mid_of (starts_at n) (n + 1) blocked) count
  b' = rw e at b

  o' : blocked ≡ put_mid n (2 * n + 1) (mid_of 0 (keep_at n) work32) (mid_of n (2 * n + 1) blocked)
  o' = rw e at o

  pub stores_asks : Droppable S.tables n count words metadata S.types (mid_of 0 n (mid_of 0 j (put_mid 0 k work32 blocked))) (mid_of n n (mid_of 0 j (put_mid 0 k work32 blocked)))
      (mid_of (starts_at n) (n + 1) (mid_of 0 j (put_mid 0 k work32 blocked))) (mid_of (keep_at n) n (mid_of 0 j (put_mid 0 k work32 blocked)))
      × (sets_room n (length S.types) ≤ room64)
      × (keep_at n + n ≤ length (mid_of 0 j (put_mid 0 k work32 blocked)))
  stores_asks = rw (e, f) (stores_known S n words metadata work32 room64 d long count blocked size' b' o', rw d.typed d.long64, stores_room S n words metadata work32 room64 d long count blocked size' b' o')

  pub stores_leave : (work64 work64' stored : List ℕ) → words ≡ mid_of 0 n work64
      → stored
      ≡ put_mid (keep_at n) n (mid_of 0 j (put_mid 0 k work32 blocked))
      (dead_stores S (mid_of 0 n (mid_of 0 j (put_mid 0 k work32 blocked))) (mid_of (keep_at n) n (mid_of 0 j (put_mid 0 k work32 blocked))) (cells_by words metadata))
      → mid_of 0 n work64' ≡ mid_of 0 n work64 → Stored S n metadata work32 work64 (put_mid 0 j (put_mid 0 k work32 blocked) stored) work64'
  stores_leave work64 work64' stored w kept still =
      rw (e, f) (stores_stored S n words metadata work32 room64 d long count blocked size' b' o' work64 work64' stored w (rw (e, f) at kept) still)
