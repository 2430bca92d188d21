-- What folding two values answers: the known integer, where there is one.
-- Assumes nothing.
use Rattle.std.specs.Prelude.{Option, None, Some, ◌≡◌, ℕ, ◌<◌, Bool, true, false, cond, nat_le, nat_lt, refl}
use Rattle.words.specs.Lists.{is_in, every}
use Rattle.words.specs.laws.Lists.{every_at}
use Rattle.values.specs.Fold.{folding_binary}
use Rattle.values.specs.Values.{Expression}
use Rattle.values.specs.declared.Atom.{Atom}
use Rattle.values.specs.declared.Atom.TheVariants.{Integer, Float, Definition}

-- the known integer of a value: what folding looks at
unfoldable pub integer_of : Atom → Option ℕ
integer_of (Integer x) = Some x
integer_of (Float x) = None
integer_of (Definition p s) = None

abbrev pub expression_of : ℕ → ℕ → Atom → Atom → Expression
expression_of o flags left right = record { opcode = o; flags = flags; left = left; right = right }

-- the opcodes of folding_binary are three runs of numbers
abbrev pub in_runs : ℕ → Bool
in_runs o = cond (nat_lt o 22) (nat_le 19 o) (cond (nat_lt o 42) (nat_le 32 o) (cond (nat_lt o 52) (nat_le 48 o) false))

unfoldable pub agree : Bool → Bool → Bool
agree true true = true
agree true false = false
agree false true = false
agree false false = true

pub agree_same : (s t : Bool) → agree s t ≡ true → s ≡ t
unfolding agree
agree_same true true e = refl
agree_same true false e = cc
agree_same false true e = cc
agree_same false false e = refl

pub by_runs : (o : ℕ) → o < 256 → is_in o folding_binary ≡ in_runs o
unfolding every agree
by_runs o h = agree_same (is_in o folding_binary) (in_runs o) (every_at 256 (λ o. agree (is_in o folding_binary) (in_runs o)) refl o h)
