-- Document 01, case 1: the turns that the listing program feeds a plan, and the text that it prints, byte by byte.
use Rattle.std.specs.Prelude.{ℕ, zero, suc, ◌+◌, ◌/◌, ◌%◌, cond, List, [], ◌∷◌, ◌++◌, ltb, replicate}
use Prim.Native.Char.{code}
use Prim.Native.String.{String}
use Prim.Native.String as string
use Rattle.protocol.specs.Format.{Plan, up_to, plan_of}
use Rattle.protocol.specs.Refusals.{number_of, Verdict, accepted, refused, check}
use Rattle.protocol.specs.Rounds.{Entry, State}
use Rattle.protocol.specs.Turns.{workers_of}
use Rattle.protocol.specs.RoundRun.{move_limit}
use Rattle.protocol.specs.Report.{End, under_way, finished, stuck, end_of}
use Rattle.protocol.specs.Calls.{memory_length, played_from}

unfoldable pub cycles : ℕ → ℕ → List ℕ
cycles n zero = []
cycles n (suc k) = up_to n ++ cycles n k

-- "2 × (steps + n) cycles 0 .. n−1"
abbrev pub listed_turns : Plan → List ℕ
listed_turns plan = cycles (workers_of plan) (move_limit plan)

-- the turns of a file by the check's verdict: those of its plan, none where it is refused
abbrev pub turns_by : Verdict → List ℕ → List ℕ
turns_by accepted file = listed_turns (plan_of file)
turns_by (refused f i) file = []

-- "uses zero memory and 2 × (steps + n) cycles": the state that they leave
abbrev pub listed_state : Plan → State
listed_state plan = played_from plan (replicate memory_length 0) (listed_turns plan)

-- a text's bytes
abbrev pub ascii : String → List ℕ
ascii string.[] = []
ascii (string.◌∷◌ c s) = code c ∷ ascii s

-- "all else decimal": the digits of a number, the most significant first, so many at most
unfoldable pub digits_in : ℕ → ℕ → List ℕ
digits_in zero n = []
digits_in (suc k) n = cond (ltb n 10) [] (digits_in k (n / 10)) ++ ((48 + n % 10) ∷ [])

-- all of them: no number has more than it counts, and 0 has one
unfoldable pub decimal : ℕ → List ℕ
decimal n = digits_in (suc n) n

abbrev pub space : ℕ
space = code " "

-- "1 0 38 0 255": numbers with a space between them and a newline behind the last
abbrev pub separator : List ℕ → ℕ
separator [] = code "\n"
separator (n ∷ ns) = space

unfoldable pub line : List ℕ → List ℕ
line [] = []
line (n ∷ ns) = decimal n ++ (separator ns ∷ line ns)

-- "prints per record round, worker, op, number, outcome"
unfoldable pub record_line : Entry → List ℕ
record_line e = line (e.round ∷ e.worker ∷ e.op ∷ e.number ∷ e.outcome ∷ [])

unfoldable pub log_lines : List Entry → List ℕ
log_lines [] = []
log_lines (e ∷ es) = record_line e ++ log_lines es

-- "a stuck plan has `stuck` in place of `finished`". The turns end every plan, so that none is under way.
abbrev pub end_word : End → List ℕ
end_word under_way = ascii "going"
end_word finished = ascii "finished"
end_word stuck = ascii "stuck"

-- "then the end word and moving turns"
unfoldable pub end_line : End → ℕ → List ℕ
end_line end moves = end_word end ++ (space ∷ line (moves ∷ []))

-- "A refusal prints `refused`, number, index"
unfoldable pub refusal_line : ℕ → ℕ → List ℕ
refusal_line number index = ascii "refused" ++ (space ∷ line (number ∷ index ∷ []))

abbrev pub lines_of : Verdict → State → List ℕ
lines_of accepted s = log_lines s.log ++ end_line (end_of s) s.moves
lines_of (refused f i) s = refusal_line (number_of f) i

-- "The listing program reads a plan on standard input .. and prints": from the file's bytes to the bytes printed
unfoldable pub listing : List ℕ → List ℕ
listing file = lines_of (check file) (listed_state (plan_of file))
