-- `play`: the turns of a run, up to the list's end or the plan's.
use native.Mathlib.Omega.{arith}
use Prim.Native.Nat.{◌+◌, ◌-◌, ◌*◌}
use mathlib.Core.Path.{refl}
use lib.ListN.{length}
use Rattle.engine.proofs.Playing.{plan-sound}
use Rattle.engine.proofs.Played.{unpicked, some_left, begins, goes_on, goes-again, again-moves, turning, went_on, no-fewer, one-at-least, syncing}
use Rattle.engine.proofs.Played.{stands_on, rises-on, first_small, few-moves, ends-here, all-played, falls, right-falls, one_at_most, sure}
use Rattle.engine.proofs.play.play.Goals as goal

pub first_round-t-requires : goal.first_round-t-requires
first_round-t-requires c =
    (omega (arith, c.requires.workers, (plan-sound c.requires.named).workers), c.requires.bytes.memory_length)

pub loop-i-init : goal.loop-i-init
loop-i-init c =
    rw (c.first_round-t.ensures.others, c.zero.ensures)
    (goes_on c.requires (begins c.requires c.first_round-t.ensures.begun) (record { listed = λ e. refl; within = λ e. omega arith }))

pub own-own-requires : goal.own-own-requires
own-own-requires c = turning c.requires c.loop-i.invariant.so

pub bounds-turns-i : goal.bounds-turns-i
bounds-turns-i c = (rw c.in-Some.is at c.own-own.ensures.turned.stopped).0

pub sync-t-requires : goal.sync-t-requires
sync-t-requires c =
    let on = c.own-own.ensures in
    let stop = rw c.in-Some.is at on.turned.stopped in
    syncing c.requires (went_on c.requires c.loop-i.invariant.so c.own-own.new.self on.turned on.same_fates) stop.0 (stop.1 c.own-own.new.self.fates c.loop-i.log)

pub returns-then-is_empty : goal.returns-then-is_empty
returns-then-is_empty c =
    let on = c.own-own.ensures in
    ends-here c.requires (stands_on c.requires c.loop-i.invariant.so on.turned on.same_fates (rw c.in-Some.is at on.turned.stopped) c.sync-t.ensures.synced)
    c.is_empty.ensures c.if-is_empty.true

pub onward-i-requires : goal.onward-i-requires
onward-i-requires c =
    let on = c.own-own.ensures in
    let stands = stands_on c.requires c.loop-i.invariant.so on.turned on.same_fates (rw c.in-Some.is at on.turned.stopped) c.sync-t.ensures.synced in
    omega (arith, c.first.ensures, first_small c.requires stands (some_left c.sync-t.result.lists.list c.is_empty.ensures c.if-is_empty.false))

pub loop-i-smaller-in-Some : goal.loop-i-smaller-in-Some
loop-i-smaller-in-Some c =
    let so = c.loop-i.invariant.so in
    let on = c.own-own.ensures in
    let stop = rw c.in-Some.is at on.turned.stopped in
    let turns = c.args.turns.now in
    let can = c.sync-t.new.self.can in
    falls _ {right = 2 * (2065 - c.loop-i.t.counts.moves) + unpicked turns c.loop-i.engine.can c.loop-i.i}
    {right' = 2 * (2065 - c.sync-t.result.counts.moves) + unpicked turns can c.onward-i.result}
    {left = length turns - c.loop-i.i} {left' = length turns - c.onward-i.result}
    (λ e.
    omega (
      arith,
      rises-on c.requires so on.turned on.same_fates stop c.sync-t.ensures.synced,
      few-moves c.requires (stands_on c.requires so on.turned on.same_fates stop c.sync-t.ensures.synced),
      one_at_most turns can c.onward-i.result,
    ))
    (λ e. omega (arith, stop.0, on.turned.forward, c.onward-i.ensures.listed e))

pub loop-i-preserved-in-Some : goal.loop-i-preserved-in-Some
loop-i-preserved-in-Some c =
    let on = c.own-own.ensures in
    goes_on c.requires (stands_on c.requires c.loop-i.invariant.so on.turned on.same_fates (rw c.in-Some.is at on.turned.stopped) c.sync-t.ensures.synced)
    c.onward-i.ensures

pub loop-i-smaller : goal.loop-i-smaller
loop-i-smaller c =
    let so = c.loop-i.invariant.so in
    let on = c.own-own.ensures in
    let over = rw c.in-None.is at on.turned.stopped in
    let here = c.loop-i-test.true in
    let turns = c.args.turns.now in
    let can = c.loop-i.engine.can in
    falls _ {right = 2 * (2065 - c.loop-i.t.counts.moves) + unpicked turns can c.loop-i.i}
    {right' = 2 * (2065 - c.own-own.result.moves) + unpicked turns c.own-own.new.self.can c.again-i.result}
    {left = length turns - c.loop-i.i} {left' = length turns - c.again-i.result}
    (λ e. right-falls _ _ (again-moves c.requires e c.again-i.ensures)
    (no-fewer c.requires so c.own-own.new.self on.turned)
    (few-moves c.requires (went_on c.requires so c.own-own.new.self on.turned on.same_fates)) (one_at_most turns can c.loop-i.i)
    (λ z. one-at-least c.requires so c.own-own.new.self on.turned (omega (arith, here, over)) (sure turns can c.loop-i.i here z)))
    (λ e. omega (arith, here, over, c.again-i.ensures.listed e))

pub loop-i-preserved : goal.loop-i-preserved
loop-i-preserved c =
    let on = c.own-own.ensures in
    goes-again c.requires (went_on c.requires c.loop-i.invariant.so c.own-own.new.self on.turned on.same_fates) c.again-i.ensures

pub returns : goal.returns
returns c = all-played c.requires c.loop-i.invariant.so (omega (arith, c.loop-i-test.false)) c.loop-i.invariant.nobody
