use Rattle.std.proofs.Common.{arith}
use Rattle.protocol.proofs.Points.{from_first}
use Rattle.rules.proofs.Rulings.{by-lock, by-unlock, by-wait, by-signal, by-barrier, by-exit, by-start}
use Rattle.rules.proofs.ruling.rule.Goals as goal

pub returns-in-32 : goal.returns-in-32
returns-in-32 c = λ locks s. by-lock c.in-32.is s c.lock.ensures.means c.lock.ensures.calm

pub returns-in-33 : goal.returns-in-33
returns-in-33 c = λ locks s. by-unlock c.in-33.is s c.unlock.ensures.means c.unlock.ensures.calm

pub returns-in-34 : goal.returns-in-34
returns-in-34 c = λ locks s. by-wait c.in-34.is s c.wait.ensures.means c.wait.ensures.calm

pub returns-in-37 : goal.returns-in-37
returns-in-37 c = λ locks s. by-barrier c.in-37.is s c.barrier.ensures.means c.barrier.ensures.sound

pub returns-in-38 : goal.returns-in-38
returns-in-38 c = λ locks s. by-exit c.in-38.is s c.exit.ensures.means c.exit.ensures.calm

pub returns-in-39 : goal.returns-in-39
returns-in-39 c = λ locks s. by-start c.in-39.is s c.start.ensures

pub returns-in_default : goal.returns-in_default
returns-in_default c = λ locks s.
    by-signal (omega (arith, from_first c.requires.0.syncs, c.requires.0.last, c.requires.1)) s c.signal.ensures.means c.signal.ensures.sound
