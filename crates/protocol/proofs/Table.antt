-- Document 01, "Plans to check against": cases 1 to 10 as one table, each with the bytes that it leaves, worked out by hand. Behind them
-- stand plans of our own: for a sentence that none of the ten shows, and those of the requests of document 02 without which a mistake in the
-- definitions would not show here. The other plans of the requests are in the crate `cases`, in one theorem with these.
use Prim.Native.Nat.{ℕ, ◌-◌, ◌/◌, ◌%◌}
use mathlib.Core.List.{List, [], ◌∷◌, ◌++◌}
use lib.ListN.{length, replicate}
use Rattle.protocol.specs.Format.{plan_of}
use Rattle.protocol.specs.RoundRun.{round_run}
use Rattle.protocol.specs.Listing.{listed_turns}
use Rattle.protocol.specs.Calls.{memory_length, log_length, report_length, work_length, Buffers, Reply, buffers_of, run}

-- "Turns are the listing program's, save in case 10." That has no turns. Those of Six, and two of Seven, have three of worker 0.
pub data Fed : Type 0 where
  listing nothing thrice : Fed

pub record Case : Type 0 where
  pub file : List ℕ
  -- the first bytes of the starting memory, zeros behind them
  pub lent : List ℕ
  pub fed : Fed
  -- the first bytes of memory in the end, zeros behind them
  pub memory : List ℕ
  pub log : List ℕ
  pub report : List ℕ

unfoldable pub turns_for : Fed → List ℕ → List ℕ
turns_for fed file = elim fed [ listing ↦ listed_turns (plan_of file) | nothing ↦ [] | thrice ↦ replicate 3 0 ]

abbrev pub turns_of : Case → List ℕ
turns_of c = turns_for c.fed c.file

-- bytes, then zeros
unfoldable pub padded : ℕ → List ℕ → List ℕ
padded size bytes = bytes ++ replicate (size - length bytes) 0

-- the buffers as lent: what log, report and work hold at first does not matter
unfoldable pub lent_to : Case → Buffers
lent_to c =
    record {
      memory = padded memory_length c.lent;
      log = replicate log_length 170;
      report = replicate report_length 170;
      work = replicate work_length 170;
    }

-- what the round-by-round run leaves
unfoldable pub round_reply : Case → Reply
round_reply c = record { returned = 0; buffers = buffers_of (round_run (plan_of c.file) (lent_to c).memory) }

-- What the definitions yield: by turns and, where the plan runs to its end, by the round-by-round run.
abbrev pub yields_by : Fed → Case → List Reply
yields_by fed c = run c.file (turns_for fed c.file) (lent_to c) ∷ elim fed [ listing ↦ round_reply c ∷ [] | nothing ↦ [] | thrice ↦ [] ]

unfoldable pub yields : Case → List Reply
yields c = yields_by c.fed c

unfoldable pub expected : Case → Reply
expected c =
    record {
      returned = 0;
      buffers =
          record { memory = padded memory_length c.memory; log = padded log_length c.log; report = c.report; work = replicate work_length 0 };
    }

abbrev pub expects_by : Fed → Case → List Reply
expects_by fed c = expected c ∷ elim fed [ listing ↦ expected c ∷ [] | nothing ↦ [] | thrice ↦ [] ]

unfoldable pub expects : Case → List Reply
expects c = expects_by c.fed c

-- a record of a plan file
abbrev pub rec : ℕ → ℕ → ℕ → ℕ → List ℕ
rec worker op register number = 0x4D ∷ 0x50 ∷ worker ∷ op ∷ register ∷ number % 256 ∷ number / 256 ∷ []

abbrev pub plan_rec : ℕ → List ℕ
plan_rec n = rec n 0 0 0

abbrev pub sleep_rec : ℕ → List ℕ
sleep_rec w = rec w 2 0 0

-- a record of the log, in a round below 256
abbrev pub entry : ℕ → ℕ → ℕ → ℕ → ℕ → List ℕ
entry round worker op number outcome = 0x4D ∷ 0x4C ∷ round ∷ 0 ∷ worker ∷ op ∷ number ∷ outcome ∷ []

-- the report, its two-byte numbers being below 256
abbrev pub report : ℕ → ℕ → ℕ → ℕ → ℕ → List ℕ → List ℕ → List ℕ
report end n moves rounds records fates sum = end ∷ n ∷ moves ∷ 0 ∷ rounds ∷ 0 ∷ records ∷ 0 ∷ (fates ++ sum)

-- the sum's four bytes, low byte first; below 256 the first alone
abbrev pub sum : ℕ → ℕ → ℕ → ℕ → List ℕ
sum a b c d = a ∷ b ∷ c ∷ d ∷ []

abbrev pub small : ℕ → List ℕ
small a = sum a 0 0 0

-- the fates of two workers, and of one
abbrev pub both : ℕ → ℕ → List ℕ
both f g = f ∷ g ∷ replicate 6 255

abbrev pub one : ℕ → List ℕ
one f = f ∷ replicate 7 255

-- both workers exit in one round
abbrev pub exits : ℕ → List ℕ
exits round = entry round 0 38 0 255 ++ entry round 1 38 0 255

-- "Worker 0: load r0 from 2; skip 2 if r0 not zero; set r1 to 1; store r1 at 0. Worker 1: the same with addresses 0 and 2 exchanged."
abbrev racer : ℕ → ℕ → ℕ → List ℕ
racer w from to = rec w 17 0 from ++ rec w 22 0 2 ++ rec w 16 1 1 ++ rec w 18 1 to

abbrev pub race : List ℕ
race = plan_rec 2 ++ racer 0 2 0 ++ racer 1 0 2

-- set a register to a number and store it at an address; and at 0
abbrev pub stores_at : ℕ → ℕ → ℕ → List ℕ
stores_at w number address = rec w 16 0 number ++ rec w 18 0 address

abbrev pub stores : ℕ → ℕ → List ℕ
stores w number = stores_at w number 0

-- add 1 at 0
abbrev adds : ℕ → List ℕ
adds w = rec w 17 0 0 ++ rec w 16 1 1 ++ rec w 19 0 1 ++ rec w 18 0 0

abbrev pub locks : ℕ → ℕ → List ℕ
locks w k = rec w 32 0 k

abbrev pub unlocks : ℕ → ℕ → List ℕ
unlocks w k = rec w 33 0 k

abbrev pub locked : ℕ → List ℕ → List ℕ
locked w steps = locks w 0 ++ steps ++ unlocks w 0

-- "One worker: lock, wait."
abbrev pub waiter : List ℕ
waiter = plan_rec 1 ++ rec 0 32 0 0 ++ rec 0 34 0 0

-- lock, wait on a condition, unlock
abbrev pub waits : ℕ → ℕ → List ℕ
waits w condition = locked w (rec w 34 0 condition)

-- a lock with count 0 before it, and a wait
abbrev pub waited : ℕ → ℕ → List ℕ
waited w condition = entry 1 w 32 0 1 ++ entry 1 w 34 condition 255

-- the unlock to count 0, in round 1
abbrev pub unlocked : ℕ → List ℕ
unlocked w = entry 1 w 33 0 0

-- the exits of round 2, in this order
abbrev pub leave : List ℕ → List ℕ
leave [] = []
leave (w ∷ ws) = entry 2 w 38 0 255 ++ leave ws

abbrev pub case : List ℕ → List ℕ → Fed → List ℕ → List ℕ → List ℕ → Case
case f l t m g r = record { file = f; lent = l; fed = t; memory = m; log = g; report = r }

-- one worker commits a 9 at 0, and then fails
abbrev pub fails : List ℕ → List ℕ → ℕ → ℕ → ℕ → Case
fails steps log moves rounds records = case (plan_rec 1 ++ steps) [] listing (9 ∷ []) log (report 1 1 moves rounds records (one 2) (small 9))

-- Five: "unlocking one that it doesn't hold", lock 1 with lock 0 held; and "locking one that this worker already holds", lock 3
abbrev pub wrong_unlock : List ℕ
wrong_unlock = plan_rec 1 ++ locks 0 0 ++ stores 0 9 ++ unlocks 0 1

abbrev pub lock_twice : List ℕ
lock_twice = plan_rec 1 ++ locks 0 3 ++ stores 0 9 ++ locks 0 3

-- copy the word at 6 to 10
abbrev pub copier : List ℕ
copier = plan_rec 1 ++ rec 0 17 0 6 ++ rec 0 18 0 10

-- one worker that exits
abbrev pub lone : List ℕ → List ℕ → List ℕ → ℕ → List ℕ → Case
lone file lent left moves total = case file lent listing left (entry 1 0 38 0 255) (report 1 1 moves 1 1 (one 1) total)

unfoldable pub cases : List Case
cases =
    -- 1, race: "At the end memory begins 01 00 01 00." "1 0 38 0 255", "1 1 38 0 255", "finished 12"
    case race [] listing (1 ∷ 0 ∷ 1 ∷ 0 ∷ []) (exits 1) (report 1 2 12 1 2 (both 1 1) (small 2))
    -- 2: "Worker 0 stores 256 at 0, worker 1 stores 1 there: 257."
    ∷ case (plan_rec 2 ++ stores 0 256 ++ stores 1 1) [] listing (1 ∷ 1 ∷ []) (exits 1) (report 1 2 8 1 2 (both 1 1) (sum 1 1 0 0))
    -- 3: "Address 0 holds 5; worker 0 stores 7, worker 1 stores 5: 7."
    ∷ case (plan_rec 2 ++ stores 0 7 ++ stores 1 5) (5 ∷ []) listing (7 ∷ []) (exits 1) (report 1 2 8 1 2 (both 1 1) (small 7))
    -- 4: "Both lock, add 1 at 0, unlock: 2, six log records."
    ∷ case (plan_rec 2 ++ locked 0 (adds 0) ++ locked 1 (adds 1)) [] listing (2 ∷ [])
    (entry 1 0 32 0 1 ++ entry 1 0 33 0 0 ++ entry 1 1 32 0 1 ++ entry 1 1 33 0 0 ++ exits 2)
    (report 1 2 18 2 6 (both 1 1) (small 2))
    -- 5: "The same without locks: 1."
    ∷ case (plan_rec 2 ++ adds 0 ++ adds 1) [] listing (1 ∷ []) (exits 1) (report 1 2 12 1 2 (both 1 1) (small 1))
    -- 6: "One worker: lock, wait. Stuck, fate 3."
    ∷ case waiter [] listing [] (entry 1 0 32 0 1 ++ entry 1 0 34 0 255) (report 2 1 3 1 2 (one 3) (small 0))
    -- 7: "One worker: store, unlock. Failed, memory unchanged, outcome 254." It stores a number that would show.
    ∷ case (plan_rec 1 ++ stores 0 7 ++ rec 0 33 0 0) [] listing [] (entry 1 0 33 0 254) (report 1 1 4 1 1 (one 2) (small 0))
    -- 8: "Barrier size 2, two workers, barrier only: outcomes 0 and 2 in round 1."
    ∷ case (plan_rec 2 ++ rec 0 1 0 2 ++ rec 0 37 0 0 ++ rec 1 37 0 0) [] listing []
    (entry 1 0 37 0 0 ++ entry 1 1 37 0 2 ++ exits 2)
    (report 1 2 8 2 4 (both 1 1) (small 0))
    -- 9: "Worker 0: lock, wait, unlock. Worker 1: lock, signal, unlock. Worker 0 unlocks in round 1; round 2 exits 1, then 0."
    ∷ case (plan_rec 2 ++ locked 0 (rec 0 34 0 0) ++ locked 1 (rec 1 35 0 0)) [] listing []
    (entry 1 0 32 0 1 ++ entry 1 0 34 0 255 ++ entry 1 1 32 0 1 ++ entry 1 1 35 0 0 ++ entry 1 1 33 0 0 ++ entry 1 0 33 0 0
    ++ entry 2 1 38 0 255 ++ entry 2 0 38 0 255)
    (report 1 2 12 2 8 (both 1 1) (small 0))
    -- 10: "The plan of case 1 with no turns: going, no log."
    ∷ case race [] nothing [] [] (report 0 2 0 0 0 (both 0 0) (small 0))
    -- "Each worker has four 16-bit registers, zero at first": one worker stores all four, over eights.
    ∷ case (plan_rec 1 ++ rec 0 18 0 0 ++ rec 0 18 1 2 ++ rec 0 18 2 4 ++ rec 0 18 3 6) (replicate 8 8) listing []
    (entry 1 0 38 0 255)
    (report 1 1 6 1 1 (one 1) (small 0))
    -- Two: "0 if none": worker 0 without a lock, after a store that the broadcast commits, and worker 1 with one.
    ∷ case (plan_rec 2 ++ stores 0 9 ++ rec 0 36 0 3 ++ locked 1 (rec 1 36 0 3)) [] listing (9 ∷ [])
    (entry 1 0 36 3 0 ++ entry 1 1 32 0 1 ++ entry 1 1 36 3 0 ++ unlocked 1 ++ leave (0 ∷ 1 ∷ []))
    (report 1 2 12 2 6 (both 1 1) (small 9))
    -- Three, "every step that commits passes this on": a worker stores 9, commits, and stays at its wait or barrier ..
    ∷ case (plan_rec 1 ++ rec 0 32 0 0 ++ stores 0 9 ++ rec 0 34 0 0) [] listing (9 ∷ []) (waited 0 0) (report 2 1 5 1 2 (one 3) (small 9))
    ∷ case (plan_rec 1 ++ rec 0 1 0 2 ++ stores 0 9 ++ rec 0 37 0 0) [] listing (9 ∷ []) (entry 1 0 37 0 0) (report 2 1 4 1 1 (one 4) (small 9))
    -- .. or fails, behind a signal. The other steps that commit, each with a worker that fails behind it, are in the crate `cases`.
    ∷ fails (stores 0 9 ++ rec 0 35 0 0 ++ rec 0 33 0 0) (entry 1 0 35 0 255 ++ entry 2 0 33 0 254) 6 2 2
    -- Five: the wrong one unlocked. The store is lost.
    ∷ case wrong_unlock [] listing [] (entry 1 0 32 0 1 ++ entry 1 0 33 1 254) (report 1 1 5 1 2 (one 2) (small 0))
    -- Seven, "and the next": a 1 at 7 is copied to 11. It is named, and memory elsewhere is another.
    ∷ lone copier (replicate 6 0 ++ (5 ∷ 1 ∷ [])) (replicate 6 0 ++ (5 ∷ 1 ∷ 0 ∷ 0 ∷ 5 ∷ 1 ∷ [])) 4 (sum 10 2 0 0)
    ∷ []
