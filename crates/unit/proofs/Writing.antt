-- Four numbers of 32 bits written one right after another, an entry of metadata; and six, the header of a result.
-- Assumes nothing.
use mathlib.Core.Path.{◌≡◌, refl, ap, ◌∙◌}
use mathlib.Core.List.{List, ◌++◌}
use Prim.Native.Nat.{ℕ, ◌+◌, ◌≤◌}
use native.Mathlib.Omega.{arith}
use lib.ListN.{length, length-append}
use borrow.Rule.Slice.PartMut.{put_mid}
use Rattle.words.specs.Le.{to_le}
use Rattle.words.specs.laws.Le.{length_to_le}
use Rattle.words.specs.laws.Regions.{put_put}

pub four_words : (a v₁ v₂ v₃ v₄ : ℕ) (d : List ℕ) {d₁ d₂ d₃ d₄ : List ℕ} → a + 16 ≤ length d
    → d₁ ≡ put_mid a 4 d (to_le 4 v₁) → d₂ ≡ put_mid (a + 4) 4 d₁ (to_le 4 v₂) → d₃ ≡ put_mid (a + 8) 4 d₂ (to_le 4 v₃) → d₄ ≡ put_mid (a + 12) 4 d₃ (to_le 4 v₄)
    → d₄ ≡ put_mid a 16 d (to_le 4 v₁ ++ to_le 4 v₂ ++ to_le 4 v₃ ++ to_le 4 v₄)
unfolding to_le
four_words a v₁ v₂ v₃ v₄ d room e₁ e₂ e₃ e₄ =
    rw (
      e₄,
      e₃,
      e₂,
      e₁,
      put_put d a 4 (to_le 4 v₁) refl (omega arith) 4 (to_le 4 v₂),
      put_put d a 8 (to_le 4 v₁ ++ to_le 4 v₂) refl (omega arith) 4 (to_le 4 v₃),
      put_put d a 12 (to_le 4 v₁ ++ to_le 4 v₂ ++ to_le 4 v₃) refl (omega arith) 4 (to_le 4 v₄),
    )

pub six_words : (v₁ v₂ v₃ v₄ v₅ v₆ : ℕ) (d : List ℕ) {d₁ d₂ d₃ d₄ d₅ d₆ : List ℕ} → 24 ≤ length d
    → d₁ ≡ put_mid 0 4 d (to_le 4 v₁) → d₂ ≡ put_mid 4 4 d₁ (to_le 4 v₂) → d₃ ≡ put_mid 8 4 d₂ (to_le 4 v₃) → d₄ ≡ put_mid 12 4 d₃ (to_le 4 v₄)
    → d₅ ≡ put_mid 16 4 d₄ (to_le 4 v₅) → d₆ ≡ put_mid 20 4 d₅ (to_le 4 v₆)
    → d₆ ≡ put_mid 0 24 d (to_le 4 v₁ ++ to_le 4 v₂ ++ to_le 4 v₃ ++ to_le 4 v₄ ++ to_le 4 v₅ ++ to_le 4 v₆)
six_words v₁ v₂ v₃ v₄ v₅ v₆ d room e₁ e₂ e₃ e₄ e₅ e₆ =
    let four = to_le 4 v₁ ++ to_le 4 v₂ ++ to_le 4 v₃ ++ to_le 4 v₄ in
    let long : length four ≡ 16 = simp (length-append, length_to_le) in
    let five = e₅ ∙ ap (λ (l : List ℕ). put_mid 16 4 l (to_le 4 v₅)) (four_words 0 v₁ v₂ v₃ v₄ d (omega arith) e₁ e₂ e₃ e₄) ∙ put_put d 0 16 four long (omega arith) 4 (to_le 4 v₅) in
    let longer : length (four ++ to_le 4 v₅) ≡ 20 = simp (length-append, length_to_le) in
    e₆ ∙ ap (λ (l : List ℕ). put_mid 20 4 l (to_le 4 v₆)) five ∙ put_put d 0 20 (four ++ to_le 4 v₅) longer (omega arith) 4 (to_le 4 v₆)
