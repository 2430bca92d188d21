-- The blocks one after another: their sets, and a visit in a round.
-- Assumes nothing.
use Rattle.std.specs.Prelude.{◌≡◌, Bool, ◌&&◌, ◌||◌, List, ℕ, ◌+◌, ◌*◌, ◌-◌, ◌≤◌, ◌<◌, length, get_or}
use Rattle.std.proofs.Math.Decide.{ℕ_discrete}
use Rattle.std.proofs.Common.{arith}
use borrow.Rule.Slice.PartMut.{put_mid}
use Rattle.words.specs.laws.Bits.{member}
use Rattle.instruction.specs.declared.Instruction.{Instruction}
use Rattle.effects.specs.Shape.{Tables, Cell}
use Rattle.use_def.specs.laws.Wordwise.{Moved}
use Rattle.liveness.specs.laws.Through.{Summary}
use Rattle.liveness.specs.laws.Shown.{row_at, row_before, row_same, row_other}
use Rattle.liveness.specs.laws.Out.{OutOf}

-- the sets of the first k blocks; block b is of the places from starts[b] to starts[b + 1]
pub record Summed (T : Tables) (keep : List ℕ) (cells : List Cell) (w : ℕ) (starts uses preserved : List ℕ) (k : ℕ) : Type 0 where
  pub each : (b : ℕ) → b < k → Summary T keep cells (row_at w uses b) (row_at w preserved b) (get_or starts b 0) (get_or starts (b + 1) 0 - get_or starts b 0)

-- the starts go up, to at most n
abbrev pub Rising : List ℕ → ℕ → ℕ → Type 0
Rising starts count n = (b : ℕ) → b < count → (get_or starts b 0 < get_or starts (b + 1) 0) × (get_or starts (b + 1) 0 ≤ n)

module _ (T : Tables) (keep : List ℕ) (cells : List Cell) (w : ℕ) (starts : List ℕ) where
  pub summed_begin : (uses preserved : List ℕ) → Summed T keep cells w starts uses preserved 0
  summed_begin uses preserved = record { each = λ b h. absurd (omega arith) }

  pub summed_turn : (u v u' v' x y : List ℕ) (k count : ℕ) → k < count → length u ≡ w * count → length v ≡ w * count → length x ≡ w → length y ≡ w → u' ≡ put_mid (w * k) w u x → v' ≡ put_mid (w * k) w v y
      → Summed T keep cells w starts u v k → Summary T keep cells x y (get_or starts k 0) (get_or starts (k + 1) 0 - get_or starts k 0) → Summed T keep cells w starts u' v' (k + 1)
  summed_turn u v u' v' x y k count h lu lv lx ly eu ev s m = record { each = each }
    where
      inside : (b : ℕ) → b < count → w * b + w ≤ w * count
      inside b g = row_before w b count g

      each : (b : ℕ) → b < k + 1 → Summary T keep cells (row_at w u' b) (row_at w v' b) (get_or starts b 0) (get_or starts (b + 1) 0 - get_or starts b 0)
      each b g = elim (ℕ_discrete b k) [
        | yes d ↦ rw (d, eu, ev, row_same w u x k (rw lu (inside k h)) lx, row_same w v y k (rw lv (inside k h)) ly) m
        | no d ↦
            rw (eu, ev, row_other w u x k (rw lu (inside k h)) lx b (rw lu (inside b (omega arith))) d, row_other w v y k (rw lv (inside k h)) ly b (rw lv (inside b (omega arith))) d)
            (s.each b (omega arith))
      ]

-- a visit of block b, whose last place is p: its row is made anew
pub record Visited (w b p n : ℕ) (i : Instruction) (blocks uses preserved live live' : List ℕ) (r : Bool) : Type 0 where
  pub row : List ℕ
  pub out : List ℕ
  pub outs : OutOf w live blocks n p i out
  pub put : live' ≡ put_mid (w * b) w live row
  pub long : length row ≡ w
  pub bits : (t : ℕ) → member row t ≡ (member (row_at w uses b) t || (member out t && member (row_at w preserved b) t))
  pub moved : Moved r (row_at w live b) row
