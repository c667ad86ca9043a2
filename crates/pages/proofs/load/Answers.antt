-- `load`: two bytes make the number.
use native.Mathlib.Omega.{arith}
use Rattle.protocol.specs.Pages.{load_word}
use Rattle.pages.proofs.load.Goals as goal

pub returns : goal.returns
unfolding load_word
returns c = omega arith
