-- One place of the sweep, in lent memory.
-- Assumes nothing.
use Rattle.std.specs.Prelude.{◌≡◌, refl, Bool, true, false, not, List, ℕ, ◌+◌, ◌-◌, ◌≤◌, length, get_or, set}
use Rattle.std.proofs.Common.{sym, ap, ◌∙◌, arith}
use Rattle.std.proofs.lemmas.Bool.{false≢true}
use Rattle.std.proofs.lemmas.List.{set-get_or}
use mir.Val.{bool_byte}
use borrow.Rule.Slice.PartMut.{mid_of, put_mid}
use Rattle.instruction.specs.declared.Instruction.{Instruction}
use Rattle.effects.specs.Shape.{Tables, Cell}
use Rattle.use_def.specs.laws.Sets.{Same}
use Rattle.use_def.specs.laws.Touched.{Before}
use Rattle.words.specs.laws.Only.{At, Only, only_none, lent}
use Rattle.use_def.specs.laws.Free.{dead_by}
use Rattle.liveness.specs.laws.Out.{OutOf}

-- at a block's last place the row becomes what is live at its end, and else it stays
pub record Entered (last : Bool) (w : ℕ) (live blocks : List ℕ) (n p : ℕ) (i : Instruction) (row row' : List ℕ) : Type 0 where
  pub yes : last ≡ true → OutOf w live blocks n p i row'
  pub no : last ≡ false → row' ≡ row

module _ (last : Bool) (w : ℕ) (live blocks : List ℕ) (n p : ℕ) (i : Instruction) (row row' : List ℕ) where
  pub entered : last ≡ true → OutOf w live blocks n p i row' → Entered last w live blocks n p i row row'
  entered e o = record { yes = λ q. o; no = λ q. absurd (false≢true (sym q ∙ e)) }

pub not_entered : (last : Bool) (w : ℕ) (live blocks : List ℕ) (n p : ℕ) (i : Instruction) (row : List ℕ) → last ≡ false → Entered last w live blocks n p i row row
not_entered last w live blocks n p i row e = record { yes = λ q. absurd (false≢true (sym e ∙ q)); no = λ q. refl }

-- a dead store is no longer kept; of one that stays, the row becomes what is live before it
pub record Swept (T : Tables) (kept dead : Bool) (x : Cell) (p : ℕ) (keep keep' row row' : List ℕ) : Type 0 where
  pub off : kept ≡ false → (keep' ≡ keep) × (row' ≡ row)
  pub gone : kept ≡ true → dead ≡ true → (keep' ≡ set keep p 0) × Same row row'
  pub on : kept ≡ true → dead ≡ false → (keep' ≡ keep) × Before T x row row'

module _ (T : Tables) (kept dead : Bool) (x : Cell) (p : ℕ) (keep row : List ℕ) where
  pub swept_off : kept ≡ false → Swept T kept dead x p keep keep row row
  swept_off e = record { off = λ q. (refl, refl); gone = λ q r. absurd (false≢true (sym e ∙ q)); on = λ q r. absurd (false≢true (sym e ∙ q)) }

  pub swept_gone : (row' : List ℕ) → kept ≡ true → dead ≡ true → Same row row' → Swept T kept dead x p keep (set keep p 0) row row'
  swept_gone row' e d s = record { off = λ q. absurd (false≢true (sym q ∙ e)); gone = λ q r. (refl, s); on = λ q r. absurd (false≢true (sym r ∙ d)) }

  pub swept_on : (row' : List ℕ) → kept ≡ true → dead ≡ false → Before T x row row' → Swept T kept dead x p keep keep row row'
  swept_on row' e d b = record { off = λ q. absurd (false≢true (sym q ∙ e)); gone = λ q r. absurd (false≢true (sym d ∙ r)); on = λ q r. (refl, b) }

-- a kept place, the row being lent: to the test alone, or then to what makes it the row before
module _ (T : Tables) (x : Cell) (kept : Bool) (e : kept ≡ true) (p : ℕ) (keep types m : List ℕ) (a k : ℕ) (r : Bool) (told : r ≡ dead_by types (mid_of a (a + k - a) m) x.instruction) where
  answer : dead_by types (mid_of a k m) x.instruction ≡ r
  answer = let part : a + k - a ≡ k = omega arith in sym (rw part at told)

  pub lent_gone : r ≡ true → Swept T kept (dead_by types (mid_of a k m) x.instruction) x p keep (set keep p 0) (mid_of a k m) (mid_of a k m) × Only (At a k) m m
  lent_gone d = (swept_gone T kept (dead_by types (mid_of a k m) x.instruction) x p keep (mid_of a k m) (mid_of a k m) e (answer ∙ d) (λ t. refl), only_none (At a k) m)

  pub lent_on : r ≡ false → a + k ≤ length m → (ys : List ℕ) → length ys ≡ length (mid_of a (a + k - a) m) → Before T x (mid_of a (a + k - a) m) ys
      → Swept T kept (dead_by types (mid_of a k m) x.instruction) x p keep keep (mid_of a k m) (mid_of a k (put_mid a (a + k - a) m ys)) × Only (At a k) m (put_mid a (a + k - a) m ys)
  lent_on d h ys l b =
      let part : a + k - a ≡ k = omega arith in
      let y = lent m a k ys h l in
      (rw y.1 (swept_on T kept (dead_by types (mid_of a k m) x.instruction) x p keep (mid_of a k m) ys e (answer ∙ d) (rw part at b)), y.0)

  -- the same, both ways at once: the flag is whether it is live
  pub lent_either : (live : Bool) → live ≡ not r → get_or keep p 0 ≡ 1 → a + k ≤ length m → (ys : List ℕ) → length ys ≡ length (mid_of a (a + k - a) m)
      → (live ≡ true → Before T x (mid_of a (a + k - a) m) ys) → (live ≡ false → Same (mid_of a (a + k - a) m) ys)
      → Swept T kept (dead_by types (mid_of a k m) x.instruction) x p keep (set keep p (bool_byte live)) (mid_of a k m) (mid_of a k (put_mid a (a + k - a) m ys)) × Only (At a k) m (put_mid a (a + k - a) m ys)
  lent_either live n one h ys l b s = go r refl
    where
      part : a + k - a ≡ k
      part = omega arith

      go : (t : Bool) → r ≡ t → Swept T kept (dead_by types (mid_of a k m) x.instruction) x p keep (set keep p (bool_byte live)) (mid_of a k m) (mid_of a k (put_mid a (a + k - a) m ys)) × Only (At a k) m (put_mid a (a + k - a) m ys)
      go true d =
          let no : live ≡ false = n ∙ ap not d in
          let y = lent m a k ys h l in
          rw no (rw y.1 (swept_gone T kept (dead_by types (mid_of a k m) x.instruction) x p keep (mid_of a k m) ys e (answer ∙ d) (rw part at (s no))), y.0)
      go false d =
          let yes : live ≡ true = n ∙ ap not d in
          let same : set keep p 1 ≡ keep = ap (set keep p) (sym one) ∙ set-get_or keep p 0 in
          rw (yes, same) (lent_on d h ys l (b yes))
