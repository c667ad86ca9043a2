-- Document 02, One, Two, Three and Five: plans beside those of `protocol`, each with the bytes that it leaves, worked out by hand. The two of Five
-- that fail stand here once more, as document 01 has them.
use mathlib.Core.List.{List, [], ◌∷◌, ◌++◌}
use lib.ListN.{replicate}
use Rattle.protocol.specs.Format.{counting_locks, plan_of}
use Rattle.protocol.specs.RoundRun.{round_run}
use Rattle.protocol.specs.Calls.{Reply, buffers_of, played_from}
use Rattle.protocol.proofs.Table.{listing, nothing, Case, turns_of, lent_to, rec, plan_rec, sleep_rec, entry, report, sum, small, both, one, exits, race, stores_at, stores}
use Rattle.protocol.proofs.Table.{locks, unlocks, locked, waits, waited, unlocked, leave, case, fails, wrong_unlock, lock_twice}

unfoldable pub requested : List Case
requested =
    -- One: "A plan is finished when every worker exited, failed or sleeps": nobody starts worker 1, whose store is never made.
    case (plan_rec 2 ++ sleep_rec 1 ++ stores 1 7) [] listing [] (entry 1 0 38 0 255) (report 1 2 2 1 1 (both 1 5) (small 0))
    -- One: "1, or 253 if the worker wasn't asleep": worker 0 starts worker 1 twice, keeps the token and stores 7 at 0, worker 1 starts worker 2
    -- in round 2, and worker 2 copies the word at 0 to 2 in round 3.
    ∷ case
    (plan_rec 3 ++ sleep_rec 1 ++ sleep_rec 2 ++ rec 0 39 0 1 ++ rec 0 39 0 1 ++ stores 0 7 ++ rec 1 39 0 2 ++ rec 2 17 0 0 ++ rec 2 18 0 2)
    [] listing (7 ∷ 0 ∷ 7 ∷ [])
    (entry 1 0 39 1 1 ++ entry 1 0 39 1 253 ++ entry 1 0 38 0 255 ++ entry 2 1 39 2 1 ++ entry 2 1 38 0 255 ++ entry 3 2 38 0 255)
    (report 1 3 13 3 6 (1 ∷ 1 ∷ 1 ∷ replicate 5 255) (small 14))
    -- One: "the sleeper joins the tail of the next round's list": worker 3, started by worker 1, is there before worker 0, whom worker 1 frees
    -- from the barrier, worker 1 itself, and worker 2. The store between start and barrier is committed by the barrier.
    ∷ case
    (plan_rec 4 ++ rec 0 1 0 2 ++ sleep_rec 3 ++ rec 0 37 0 0 ++ rec 1 39 0 3 ++ stores 1 5 ++ rec 1 37 0 0 ++ locked 2 [])
    [] listing (5 ∷ [])
    (entry 1 0 37 0 0 ++ entry 1 1 39 3 1 ++ entry 1 1 37 0 2 ++ entry 1 2 32 0 1 ++ entry 1 2 33 0 0
    ++ entry 2 3 38 0 255 ++ entry 2 0 38 0 255 ++ entry 2 1 38 0 255 ++ entry 2 2 38 0 255)
    (report 1 4 18 2 9 (1 ∷ 1 ∷ 1 ∷ 1 ∷ replicate 4 255) (small 5))
    -- Two: "all waiters go directly behind the holder, first waiter first": workers 0, 2 and 3 wait on condition 0, worker 1 on condition 1.
    -- Worker 4, with a lock, keeps the token until its unlock.
    ∷ case (plan_rec 5 ++ waits 0 0 ++ waits 1 1 ++ waits 2 0 ++ waits 3 0 ++ locked 4 (rec 4 36 0 0)) [] listing []
    (waited 0 0 ++ waited 1 1 ++ waited 2 0 ++ waited 3 0 ++ entry 1 4 32 0 1 ++ entry 1 4 36 0 3 ++ unlocked 4
    ++ unlocked 0 ++ unlocked 2 ++ unlocked 3 ++ leave (4 ∷ 0 ∷ 2 ∷ 3 ∷ []))
    (report 2 5 27 2 18 (1 ∷ 3 ∷ 1 ∷ 1 ∷ 1 ∷ replicate 3 255) (small 0))
    -- The same without the lock: worker 4 gives up the token.
    ∷ case (plan_rec 5 ++ waits 0 0 ++ waits 1 1 ++ waits 2 0 ++ waits 3 0 ++ rec 4 36 0 0) [] listing []
    (waited 0 0 ++ waited 1 1 ++ waited 2 0 ++ waited 3 0 ++ entry 1 4 36 0 3
    ++ unlocked 0 ++ unlocked 2 ++ unlocked 3 ++ leave (4 ∷ 0 ∷ 2 ∷ 3 ∷ []))
    (report 2 5 25 2 16 (1 ∷ 3 ∷ 1 ∷ 1 ∷ 1 ∷ replicate 3 255) (small 0))
    -- Two, behind a signal of the same holder: the list is 3, 0, 4 after the signal and 3, 1, 2, 0, 4 after the broadcast.
    ∷ case
    (plan_rec 5 ++ waits 0 0 ++ waits 1 0 ++ waits 2 0 ++ locked 3 (rec 3 35 0 0 ++ rec 3 36 0 0) ++ locked 4 [])
    [] listing []
    (waited 0 0 ++ waited 1 0 ++ waited 2 0 ++ entry 1 3 32 0 1 ++ entry 1 3 35 0 0 ++ entry 1 3 36 0 2 ++ unlocked 3
    ++ unlocked 1 ++ unlocked 2 ++ unlocked 0 ++ entry 1 4 32 0 1 ++ unlocked 4 ++ leave (3 ∷ 1 ∷ 2 ∷ 0 ∷ 4 ∷ []))
    (report 1 5 30 2 20 (replicate 5 1 ++ replicate 3 255) (small 0))
    -- Two workers signal back and forth: six come into the list of round 1.
    ∷ case
    (plan_rec 2 ++ locked 0 (rec 0 34 0 0 ++ rec 0 35 0 1 ++ rec 0 34 0 0 ++ rec 0 35 0 1)
    ++ locked 1 (rec 1 35 0 0 ++ rec 1 34 0 1 ++ rec 1 35 0 0 ++ rec 1 34 0 1))
    [] listing []
    (waited 0 0 ++ entry 1 1 32 0 1 ++ entry 1 1 35 0 0 ++ entry 1 1 34 1 255 ++ entry 1 0 35 1 1 ++ entry 1 0 34 0 255
    ++ entry 1 1 35 0 0 ++ entry 1 1 34 1 255 ++ entry 1 0 35 1 1 ++ unlocked 0 ++ unlocked 1 ++ leave (0 ∷ 1 ∷ []))
    (report 1 2 18 2 14 (both 1 1) (small 0))
    -- Three workers broadcast in turn: nine come into the list of round 1.
    ∷ case
    (plan_rec 3 ++ locked 0 (rec 0 34 0 0 ++ rec 0 34 0 0 ++ rec 0 36 0 0) ++ locked 1 (rec 1 34 0 0 ++ rec 1 36 0 0 ++ rec 1 34 0 0)
    ++ locked 2 (rec 2 36 0 0 ++ rec 2 34 0 0 ++ rec 2 34 0 0))
    [] listing []
    (waited 0 0 ++ waited 1 0 ++ entry 1 2 32 0 1 ++ entry 1 2 36 0 2 ++ entry 1 2 34 0 255 ++ entry 1 0 34 0 255
    ++ entry 1 1 36 0 2 ++ entry 1 1 34 0 255 ++ entry 1 2 34 0 255 ++ entry 1 0 36 0 2 ++ unlocked 0 ++ unlocked 1 ++ unlocked 2
    ++ leave (0 ∷ 1 ∷ 2 ∷ []))
    (report 1 3 24 2 18 (replicate 3 1 ++ replicate 5 255) (small 0))
    -- Three, "at every commit": address 0 holds 5 and both store 7 there. The second commit writes what stands there, and moves nothing.
    ∷ case (plan_rec 2 ++ stores 0 7 ++ stores 1 7) (5 ∷ []) listing (7 ∷ []) (exits 1) (report 1 2 8 1 2 (both 1 1) (small 7))
    -- Three, "every step that commits passes this on": a worker stores 9, commits, and fails, behind a lock, an unlock, a broadcast, a barrier of
    -- size 1 and a start of its own. The rows with a wait, a barrier of size 2 and a signal are in `protocol`.
    ∷ fails (stores 0 9 ++ rec 0 32 0 0 ++ rec 0 38 0 0) (entry 1 0 32 0 1 ++ entry 1 0 38 0 254) 5 1 2
    ∷ fails (locked 0 (stores 0 9) ++ rec 0 33 0 0) (entry 1 0 32 0 1 ++ unlocked 0 ++ entry 2 0 33 0 254) 7 2 3
    ∷ fails (stores 0 9 ++ rec 0 36 0 0 ++ rec 0 33 0 0) (entry 1 0 36 0 0 ++ entry 2 0 33 0 254) 6 2 2
    ∷ fails (rec 0 1 0 1 ++ stores 0 9 ++ rec 0 37 0 0 ++ rec 0 33 0 0) (entry 1 0 37 0 1 ++ entry 2 0 33 0 254) 6 2 2
    ∷ fails (stores 0 9 ++ rec 0 39 0 0 ++ rec 0 33 0 0) (entry 1 0 39 0 253 ++ entry 1 0 33 0 254) 5 1 2
    -- Three, a word of two words: 770 at 1 is 2 in the upper byte of the word at 0, and 3 in the lower one of the next.
    ∷ case (plan_rec 1 ++ stores_at 0 770 1) [] listing (0 ∷ 2 ∷ 3 ∷ []) (entry 1 0 38 0 255) (report 1 1 4 1 1 (one 1) (sum 3 2 0 0))
    -- .. and of two pages: 770 at 255.
    ∷ case (plan_rec 1 ++ stores_at 0 770 255) [] listing (replicate 255 0 ++ (2 ∷ 3 ∷ [])) (entry 1 0 38 0 255)
    (report 1 1 4 1 1 (one 1) (sum 3 2 0 0))
    -- Three, memory of all 255, and no turns: 1,024 × 65,535 = 67,107,840.
    ∷ case race (replicate 2048 255) nothing (replicate 2048 255) [] (report 0 2 0 0 0 (both 0 0) (sum 0 252 255 3))
    -- .. and a 0 stored over the first word: the sum falls by 65,535, to 67,042,305.
    ∷ case (plan_rec 1 ++ stores 0 0) (replicate 2048 255) listing (0 ∷ 0 ∷ replicate 2046 255) (entry 1 0 38 0 255)
    (report 1 1 4 1 1 (one 1) (sum 1 252 254 3))
    -- Five: two locks, given back in the order in which they were taken, and in the other one. "Outcomes show how many are held after."
    ∷ case (plan_rec 1 ++ locks 0 1 ++ locks 0 2 ++ stores 0 9 ++ unlocks 0 1 ++ unlocks 0 2) [] listing (9 ∷ [])
    (entry 1 0 32 1 1 ++ entry 1 0 32 2 2 ++ entry 1 0 33 1 1 ++ entry 1 0 33 2 0 ++ entry 2 0 38 0 255)
    (report 1 1 9 2 5 (one 1) (small 9))
    ∷ case (plan_rec 1 ++ locks 0 1 ++ locks 0 2 ++ stores 0 9 ++ unlocks 0 2 ++ unlocks 0 1) [] listing (9 ∷ [])
    (entry 1 0 32 1 1 ++ entry 1 0 32 2 2 ++ entry 1 0 33 2 1 ++ entry 1 0 33 1 0 ++ entry 2 0 38 0 255)
    (report 1 1 9 2 5 (one 1) (small 9))
    -- Five: one lock taken twice. The store is lost.
    ∷ case lock_twice [] listing [] (entry 1 0 32 3 1 ++ entry 1 0 32 3 254) (report 1 1 5 1 2 (one 2) (small 0))
    -- Five: lock 2, given back with lock 1 held, is given back once more. The inner unlock has committed nothing.
    ∷ case (plan_rec 1 ++ locks 0 1 ++ locks 0 2 ++ stores 0 9 ++ unlocks 0 2 ++ unlocks 0 2) [] listing []
    (entry 1 0 32 1 1 ++ entry 1 0 32 2 2 ++ entry 1 0 33 2 1 ++ entry 1 0 33 2 254)
    (report 1 1 7 1 4 (one 2) (small 0))
    -- Five: worker 0 waits with locks 1 and 2, and holds both on waking. "What other workers hold plays no part": worker 1 takes lock 1 meanwhile.
    ∷ case
    (plan_rec 2 ++ locks 0 1 ++ locks 0 2 ++ rec 0 34 0 0 ++ unlocks 0 1 ++ unlocks 0 2 ++ locks 1 1 ++ rec 1 35 0 0 ++ unlocks 1 1)
    [] listing []
    (entry 1 0 32 1 1 ++ entry 1 0 32 2 2 ++ entry 1 0 34 0 255 ++ entry 1 1 32 1 1 ++ entry 1 1 35 0 0 ++ entry 1 1 33 1 0
    ++ entry 1 0 33 1 1 ++ entry 1 0 33 2 0 ++ leave (1 ∷ 0 ∷ []))
    (report 1 2 14 2 10 (both 1 1) (small 0))
    ∷ []

-- What document 01 says of the two plans that fail: "Only the count matters, not which lock."
unfoldable pub counted_cases : List Case
counted_cases =
    -- it ran on, and the unlock committed
    case wrong_unlock [] listing (9 ∷ []) (entry 1 0 32 0 1 ++ entry 1 0 33 1 0 ++ entry 2 0 38 0 255) (report 1 1 7 2 3 (one 1) (small 9))
    -- it ran on to its end, where "exit with count above 0" fails
    ∷ case lock_twice [] listing [] (entry 1 0 32 3 1 ++ entry 1 0 32 3 2 ++ entry 1 0 38 0 254) (report 1 1 6 1 3 (one 2) (small 0))
    ∷ []

-- what the definitions yield with locks by count, by turns and by the round-by-round run
unfoldable pub yields_counted : Case → List Reply
yields_counted c =
    record { returned = 0; buffers = buffers_of (played_from (counting_locks (plan_of c.file)) (lent_to c).memory (turns_of c)) }
    ∷ record { returned = 0; buffers = buffers_of (round_run (counting_locks (plan_of c.file)) (lent_to c).memory) }
    ∷ []
