-- Loads, copies and operators: they write slot a, and of single slots they read b and c at most.
-- Assumes nothing.
use Rattle.std.specs.Prelude.{◌≡◌, ℕ, ◌*◌, ◌<◌, Bool, true, false, cond, not, ◌&&◌, ◌||◌, List, length, ◌==◌, nat_eq, slice_index_or}
use Rattle.std.proofs.Math.Path.{refl}
use Rattle.std.proofs.Common.{sym, ◌∙◌, true≢false, eqb-true}
use Rattle.std.proofs.Math.Bool.{and-false}
use Rattle.std.proofs.lemmas.Bool.{not-true}
use Rattle.words.specs.laws.Truth.{right_true}
use Rattle.words.specs.laws.Bits.{member}
use Rattle.instruction.specs.declared.Instruction.{Instruction}
use Rattle.instruction.specs.declared.Class.{Class}
use Rattle.instruction.specs.Class.{number_of, is_pure}
use Rattle.instruction.specs.Instruction.{of_word, class}
use Rattle.effects.specs.Shape.{Tables, Cell}
use Rattle.effects.specs.laws.Form.{empty_range}
use Rattle.effects.specs.laws.ByClass.{reads_by_class, writes_by_class}
use Rattle.effects.specs.laws.Single.{is_single, reads_first, reads_second}
use Rattle.effects.proofs.laws.Single.{by_single, single_inside}
use Rattle.unit.specs.Entry.{type_value, type_float}
use Rattle.unit.specs.declared.Metadata.{Metadata}
use Rattle.use_def.specs.laws.Sets.{Put, Same, range, slot_if, slot_within}
use Rattle.use_def.specs.laws.Touched.{cell, reading, writing, Fits, put_slot_write, put_slot_reads, reads_in, writes_in}
use Rattle.use_def.specs.laws.Free.{free_slot, dead_by, one_free, Spans}

-- such an instruction's word, whose slots all have a bit in a set of that many words
pub record SingleFits (count w : ℕ) : Type 0 where
  pub some : 0 < count
  pub single : is_single (class (of_word w)) ≡ true
  pub written : (of_word w).a < 64 * count
  pub first : reads_first (class (of_word w)) ≡ true → (of_word w).b < 64 * count
  pub second : reads_second (class (of_word w)) ≡ true → (of_word w).c < 64 * count

-- the ranges that they read and write
module _ (k : Class) (e : is_single k ≡ true) where
  pure : is_pure k ≡ true
  unfolding is_pure
  pure = by_single (λ k. is_pure k ≡ true) refl refl refl refl refl k e

  module _ (i : Instruction) where
    slot_written : range i.a 1 ≡ slice_index_or (writes_by_class k i) 0 empty_range
    unfolding writes_by_class
    slot_written = by_single (λ k. range i.a 1 ≡ slice_index_or (writes_by_class k i) 0 empty_range) refl refl refl refl refl k e

    first_read : slot_if (reads_first k) i.b ≡ slice_index_or (reads_by_class k i) 0 empty_range
    unfolding number_of reads_by_class
    first_read = by_single (λ k. slot_if (reads_first k) i.b ≡ slice_index_or (reads_by_class k i) 0 empty_range) refl refl refl refl refl k e

    second_read : slot_if (reads_second k) i.c ≡ slice_index_or (reads_by_class k i) 1 empty_range
    unfolding number_of reads_by_class
    second_read = by_single (λ k. slot_if (reads_second k) i.c ≡ slice_index_or (reads_by_class k i) 1 empty_range) refl refl refl refl refl k e

  -- what reads c reads b
  no_second : reads_first k ≡ false → reads_second k ≡ false
  unfolding number_of
  no_second = by_single (λ k. reads_first k ≡ false → reads_second k ≡ false) (λ f. refl) (λ f. refl) (λ f. refl) (λ f. refl) (λ f. absurd (true≢false f)) k e

-- ---- by the instruction's word

pub single_fits : (count w : ℕ) (T : Tables) (m : Metadata) → 0 < count → is_single (class (of_word w)) ≡ true → Fits count T (cell w m) → SingleFits count w
single_fits count w T m some e f =
    let i : Instruction = of_word w in
    let k : Class = class i in
    let x : Cell = cell w m in
    record {
      some = some;
      single = e;
      written = slot_within (64 * count) i.a true (writes_in T x k refl (single_inside k e) (64 * count) 0 _ f.writes_fit (slot_written k e i)) refl;
      first = slot_within (64 * count) i.b (reads_first k) (reads_in T x k refl (single_inside k e) (64 * count) 0 _ f.reads_fit (first_read k e i));
      second = slot_within (64 * count) i.c (reads_second k) (reads_in T x k refl (single_inside k e) (64 * count) 1 _ f.reads_fit (second_read k e i));
    }

-- the slots that are put are those that it writes and reads
module _ (w : ℕ) (k : Class) (same : k ≡ class (of_word w)) (e : is_single k ≡ true) (T : Tables) (m : Metadata) where
  pub put_single_write : (l l' : List ℕ) (a : ℕ) → a ≡ (of_word w).a → Put false (λ t. nat_eq t a) l l' → Put false (writing T (cell w m)) l l'
  put_single_write l l' a d q = put_slot_write T (cell w m) k same (single_inside k e) false l l' true a (rw d (slot_written k e (of_word w))) q

  pub put_single_reads : (l l₁ l₂ : List ℕ) (x y : Bool) (b c : ℕ) → x ≡ reads_first k → b ≡ (of_word w).b → y ≡ reads_second k → c ≡ (of_word w).c
      → Put true (λ t. x && t == b) l l₁ → Put true (λ t. y && t == c) l₁ l₂ → Put true (reading T (cell w m)) l l₂
  put_single_reads l l₁ l₂ x y b c f d g h q s =
      put_slot_reads T (cell w m) k same (single_inside k e) l l₁ l₂ x y b c (rw (f, d) (first_read k e (of_word w))) (rw (g, h) (second_read k e (of_word w))) q s

  -- a load reads nothing
  pub no_single_reads : (l : List ℕ) → reads_first k ≡ false → Put true (reading T (cell w m)) l l
  no_single_reads l f = put_single_reads l l l false false (of_word w).b (of_word w).c (sym f) refl (sym (no_second k e f)) refl (λ t. refl) (λ t. refl)

-- nothing is put in for a dead store
pub none_put : (l l₁ l₂ : List ℕ) (b c : ℕ) (y live : Bool) → live ≡ false → Put true (λ t. live && t == b) l l₁ → Put true (λ t. (y && live) && t == c) l₁ l₂ → Same l l₂
none_put l l₁ l₂ b c y live d p q t = rw (d, and-false y) at (q t) ∙ rw d at (p t)

-- its slot is not in the set: the set stays
pub single_stays : (l l₁ l₂ : List ℕ) (a : ℕ) → member l a ≡ false → Put false (λ t. nat_eq t a) l l₁ → Same l₁ l₂ → Same l l₂
single_stays l l₁ l₂ a e p q t = q t ∙ p t ∙ go (t == a) refl
  where
    go : (s : Bool) → (t == a) ≡ s → cond s false (member l t) ≡ member l t
    go true s = rw (eqb-true t a s) (sym e)
    go false s = refl

-- ---- dead stores

module _ (types row : List ℕ) (i : Instruction) (e : is_single (class i) ≡ true) where
  pub single_dead : dead_by types row i ≡ free_slot types row i.a
  single_dead = rw (pure (class i) e, ← slot_written (class i) e i) (one_free types row (range i.a 1) refl)

  pub single_absent : dead_by types row i ≡ true → member row i.a ≡ false
  single_absent d = not-true (member row i.a) (right_true (slice_index_or types i.a 1 == type_value || slice_index_or types i.a 1 == type_float) (not (member row i.a)) (sym single_dead ∙ d))

  pub single_spans : Spans types row (slice_index_or (writes_by_class (class i) i) 0 empty_range) → (i.a < length types) × (i.a < 64 * length row)
  single_spans s =
      let t : Spans types row (range i.a 1) = rw (slot_written (class i) e i) s in
      (slot_within (length types) i.a true t.typed refl, slot_within (64 * length row) i.a true t.inside refl)
