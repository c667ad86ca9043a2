-- What the engine keeps beside its schedule: an entry for each worker, the marks of the copies, and the lent bytes.
use Rattle.std.specs.Prelude.{ℕ, Bool, List, [], get_or}
use Rattle.worker.specs.declared.Worker.{Worker}
use Rattle.engine.specs.declared.state.Engine.{Engine}

pub record Kept : Type 0 where
  pub places : List ℕ
  pub held : List ℕ
  -- four numbers each
  pub registers : List (List ℕ)
  -- the fates by their codes
  pub fates : List ℕ
  -- who can move
  pub can : List Bool
  pub copied : List Bool
  pub memory : List ℕ
  pub log : List ℕ
  pub work : List ℕ

abbrev pub kept : (places held : List ℕ) (registers : List (List ℕ)) (fates : List ℕ) (can copied : List Bool) (memory log work : List ℕ) → Kept
kept ps hs rs fs cs ms memory log work =
    record { places = ps; held = hs; registers = rs; fates = fs; can = cs; copied = ms; memory = memory; log = log; work = work }

-- it is formed so in the contracts, from the engine's values and the lent bytes
abbrev pub kept_of : Engine → (memory log work : List ℕ) → Kept
kept_of e memory log work = kept e.places e.held e.registers e.fates e.can e.copied memory log work

-- own steps touch neither fates nor log: what is kept, whatever these are
abbrev pub kept_own : Engine → (memory work : List ℕ) → (fates log : List ℕ) → Kept
kept_own e memory work fates log = kept e.places e.held e.registers fates e.can e.copied memory log work

-- worker w's private record, in what is kept and in the engine's values
abbrev pub private_of : Kept → ℕ → Worker
private_of k w = record { place = get_or k.places w 0; held = get_or k.held w 0; registers = get_or k.registers w [] }

abbrev pub private_in : Engine → ℕ → Worker
private_in e w = record { place = get_or e.places w 0; held = get_or e.held w 0; registers = get_or e.registers w [] }
