-- What hints, jumps and loops read and write, as sets of slots.
-- Assumes nothing.
use Rattle.std.specs.Prelude.{◌≡◌, ℕ, ◌*◌, ◌<◌, Bool, true, false, ◌&&◌, ◌||◌, List, ◌==◌, slice_index_or}
use Rattle.std.proofs.Math.Path.{refl}
use Rattle.instruction.specs.declared.Instruction.{Instruction}
use Rattle.instruction.specs.declared.Class.{Class}
use Rattle.instruction.specs.Class.{number_of, is_pure}
use Rattle.instruction.specs.Instruction.{of_word, class}
use Rattle.effects.specs.Shape.{Tables}
use Rattle.effects.specs.Effects.{range_has, any_of}
use Rattle.effects.specs.laws.Form.{empty_range}
use Rattle.effects.specs.laws.ByClass.{reads_by_class, writes_by_class}
use Rattle.effects.proofs.laws.ByClass.{reads_by_class_lem, sure_by_class}
use Rattle.effects.specs.laws.Branching.{is_branching, reads_condition, is_loop, by_branching, branching_inside}
use Rattle.unit.specs.declared.Metadata.{Metadata}
use Rattle.use_def.specs.laws.Sets.{Put, range, slot_if, slot_within}
use Rattle.use_def.specs.laws.Touched.{cell, touches, writing, Fits, Before, before_read, put_slot_write, put_slot_reads, reads_in}
use Rattle.use_def.specs.laws.Free.{dead_by}

-- such an instruction's word, whose slots all have a bit in a set of that many words
pub record BranchFits (count w : ℕ) : Type 0 where
  pub some : 0 < count
  pub branching : is_branching (class (of_word w)) ≡ true
  pub condition : reads_condition (class (of_word w)) ≡ true → (of_word w).a < 64 * count
  pub limit : is_loop (class (of_word w)) ≡ true → (of_word w).b < 64 * count

-- the ranges that they read and write
module _ (k : Class) (e : is_branching k ≡ true) where
  -- what writes a reads it
  pub loop_condition : is_loop k ≡ true → reads_condition k ≡ true
  unfolding number_of
  loop_condition = by_branching (λ k. is_loop k ≡ true → reads_condition k ≡ true) (λ l. l) (λ l. l) (λ l. refl) (λ l. refl) (λ l. refl) k e

  module _ (i : Instruction) where
    slot_written : slot_if (is_loop k) i.a ≡ slice_index_or (writes_by_class k i) 0 empty_range
    unfolding number_of writes_by_class
    slot_written = by_branching (λ k. slot_if (is_loop k) i.a ≡ slice_index_or (writes_by_class k i) 0 empty_range) refl refl refl refl refl k e

    condition_read : slot_if (reads_condition k) i.a ≡ slice_index_or (reads_by_class k i) 0 empty_range
    unfolding number_of reads_by_class
    condition_read = by_branching (λ k. slot_if (reads_condition k) i.a ≡ slice_index_or (reads_by_class k i) 0 empty_range) refl refl refl refl refl k e

    limit_read : slot_if (is_loop k) i.b ≡ slice_index_or (reads_by_class k i) 1 empty_range
    unfolding number_of reads_by_class
    limit_read = by_branching (λ k. slot_if (is_loop k) i.b ≡ slice_index_or (reads_by_class k i) 1 empty_range) refl refl refl refl refl k e

    not_read : (t : ℕ) → touches (reads_by_class k i) t ≡ false → touches (writes_by_class k i) t ≡ false
    unfolding any_of reads_by_class writes_by_class
    not_read t =
        by_branching (λ k. touches (reads_by_class k i) t ≡ false → touches (writes_by_class k i) t ≡ false)
        (λ n. refl) (λ n. refl) (λ n. refl) (λ n. refl)
        (λ n. left (range_has t (range i.a 1)) _ n) k e
      where
        left : (x y : Bool) → (x || y) ≡ false → (x || false) ≡ false
        left true y n = n
        left false y n = refl

-- ---- by the instruction's word

pub branch_fits : (count w : ℕ) (T : Tables) (m : Metadata) → 0 < count → is_branching (class (of_word w)) ≡ true → Fits count T (cell w m) → BranchFits count w
branch_fits count w T m some e f =
    let i : Instruction = of_word w in
    let k : Class = class i in
    record {
      some = some;
      branching = e;
      condition = slot_within (64 * count) i.a (reads_condition k) (reads_in T (cell w m) k refl (branching_inside k e) (64 * count) 0 _ f.reads_fit (condition_read k e i));
      limit = slot_within (64 * count) i.b (is_loop k) (reads_in T (cell w m) k refl (branching_inside k e) (64 * count) 1 _ f.reads_fit (limit_read k e i));
    }

module _ (w : ℕ) (e : is_branching (class (of_word w)) ≡ true) (T : Tables) (m : Metadata) where
  abbrev k : Class
  k = class (of_word w)

  pub put_loop_write : (l l' : List ℕ) (x : Bool) (a : ℕ) → x ≡ is_loop k → a ≡ (of_word w).a → Put false (λ t. x && t == a) l l' → Put false (writing T (cell w m)) l l'
  put_loop_write l l' x a f d q = put_slot_write T (cell w m) k refl (branching_inside k e) false l l' x a (rw (f, d) (slot_written k e (of_word w))) q

  pub put_branch_reads : (l l₁ l₂ : List ℕ) (x y : Bool) (a b : ℕ) → x ≡ reads_condition k → a ≡ (of_word w).a → y ≡ is_loop k → b ≡ (of_word w).b
      → Put true (λ t. x && t == a) l l₁ → Put true (λ t. y && t == b) l₁ l₂ → Before T (cell w m) l l₂
  put_branch_reads l l₁ l₂ x y a b f d g h q s =
      let inside = branching_inside k e in
      before_read T (cell w m) l l₂
      (λ t n. rw (sure_by_class T (cell w m) inside) (not_read k e (of_word w) t (rw (reads_by_class_lem T (cell w m) inside) at n)))
      (put_slot_reads T (cell w m) k refl inside l l₁ l₂ x y a b (rw (f, d) (condition_read k e (of_word w))) (rw (g, h) (limit_read k e (of_word w))) q s)

-- it is no store, so it is not dead
impure : (k : Class) → is_branching k ≡ true → is_pure k ≡ false
unfolding is_pure
impure = by_branching (λ k. is_pure k ≡ false) refl refl refl refl refl

pub branch_not_dead : (types row : List ℕ) (i : Instruction) → is_branching (class i) ≡ true → dead_by types row i ≡ false
branch_not_dead types row i e = rw (impure (class i) e)
