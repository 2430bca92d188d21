-- The laws of `lowest_slot`: what is found is the lowest slot that holds the value and has the type.
-- Assumes nothing.
use Rattle.std.specs.Prelude.{◌≡◌, ℕ, Bool, true, ◌&&◌, ◌==◌}
use Rattle.std.proofs.Math.Path.{refl}
use Rattle.std.proofs.Common.{ap, ap₂, eqb-true, eq-eqb}
use Rattle.std.proofs.lemmas.Bool.{false≢true}
use Rattle.words.specs.laws.Truth.{both}
use Rattle.values.specs.Values.{Values, same_atom, value_of}
use Rattle.values.specs.declared.Atom.{Atom}
use Rattle.values.specs.declared.Atom.TheVariants.{Integer, Float, Definition}

-- ---- equal values

pub same_atom_lem : (v w : Atom) → same_atom v w ≡ true → v ≡ w
unfolding same_atom
same_atom_lem (Integer x) (Integer y) e = ap Integer (eqb-true x y e)
same_atom_lem (Integer x) (Float y) e = absurd (false≢true e)
same_atom_lem (Integer x) (Definition q t) e = absurd (false≢true e)
same_atom_lem (Float x) (Integer y) e = absurd (false≢true e)
same_atom_lem (Float x) (Float y) e = ap Float (eqb-true x y e)
same_atom_lem (Float x) (Definition q t) e = absurd (false≢true e)
same_atom_lem (Definition p s) (Integer y) e = absurd (false≢true e)
same_atom_lem (Definition p s) (Float y) e = absurd (false≢true e)
same_atom_lem (Definition p s) (Definition q t) e = let b = both (p == q) (s == t) e in ap₂ Definition (eqb-true p q b.0) (eqb-true s t b.1)

pub atom_same : (v : Atom) → same_atom v v ≡ true
unfolding same_atom
atom_same (Integer x) = eq-eqb x x refl
atom_same (Float x) = eq-eqb x x refl
atom_same (Definition p s) = rw (eq-eqb p p refl, eq-eqb s s refl)

-- ---- the lowest slot

-- does slot s, of type k, hold the value, and has it the type?
abbrev pub holds_as : Values → Atom → ℕ → ℕ → ℕ → Bool
holds_as t v type s k = same_atom (value_of t s) v && k == type
