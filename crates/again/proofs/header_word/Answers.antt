use mathlib.Core.Path.{refl}
use Rattle.again.specs.Again.{header_words}
use Rattle.again.proofs.header_word.Goals as goal

pub returns : goal.returns
unfolding header_words
returns c = record { word = refl }
