-- What a step reads decides what it does, and it alters no slot that it gives no word.
-- Assumes nothing.
use mathlib.Core.List.{List, [], ◌∷◌, ◌++◌}
use Prim.Native.Nat.{ℕ}

pub data In (s : ℕ) : List ℕ → Type 0 where
  here : {l : List ℕ} → In s (s ∷ l)
  there : {t : ℕ} {l : List ℕ} → In s l → In s (t ∷ l)

pub in_left : {s : ℕ} {l : List ℕ} (m : List ℕ) → In s l → In s (l ++ m)
in_left m here = here
in_left m (there i) = there (in_left m i)

pub in_right : {s : ℕ} (l : List ℕ) {m : List ℕ} → In s m → In s (l ++ m)
in_right [] i = i
in_right (x ∷ l) i = there (in_right l i)
