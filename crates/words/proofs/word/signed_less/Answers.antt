use Rattle.std.proofs.lemmas.Int.{of_z-to_z}
use Rattle.words.specs.laws.Word.{signed_order}
use Rattle.words.proofs.word.signed_less.Goals as goal
use mir.Syntax.{w64}

pub returns : goal.returns
returns c =
    let a = c.args in
    let r = c.ranges in
    rw (c.cast_signed.ensures, c.cast_signed-2.ensures, of_z-to_z w64 a.a r.a.fits, of_z-to_z w64 a.b r.b.fits) (signed_order a.a a.b r.a.fits r.b.fits)
