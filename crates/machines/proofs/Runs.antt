-- Runs of one process, and of all.
use Rattle.std.proofs.Common.{◌≡◌, ℕ, ◌<◌, ◌≢◌, List, [], length, get_or, set, ⊎_elim, length-set}
use lib.ListN.{length-replicate}
use Rattle.std.proofs.lemmas.List.{get_or-set_same, get_or-set_other, set-set, set-get_or}
use Rattle.std.proofs.lemmas.Bool.{cases_eq}
use Rattle.files.specs.Program.{Program}
use Rattle.machines.specs.Config.{Config, View, view, at, put, start_of}
use Rattle.machines.specs.Step.{Move, noted, Step, moves, stay, ◌then◌, Run, Traced, begins, continues}
use Rattle.machines.proofs.Configs.{put_put, put_at, Sized, sized_put, at_put, at_put_other}

infixl 20 ◌next◌
-- one process, which has made the transitions ts, moves on from a
pub data Makes (Rule : View → Move → View → Type 0) (a : View) (ts : List ℕ) : View → List ℕ → Type 0 where
  idle : Makes Rule a ts a ts
  ◌next◌ : {b c : View} {us : List ℕ} {k : Move} → Makes Rule a ts b us → Rule b k c → Makes Rule a ts c (noted us k)

pub link : {Rule : View → Move → View → Type 0} {a b : View} {ts us : List ℕ} {c : View} {vs : List ℕ}
    → Makes Rule a ts b us → Makes Rule b us c vs → Makes Rule a ts c vs
link r idle = r
link r (s next m) = link r s next m

module _ {s : Program} {Rule : ℕ → View → Move → View → Type 0} {a : Config} where
  -- each run makes some transitions
  pub traced : {c : Config} → Run (Step s Rule) a c → (made : List (List ℕ)) × Traced s Rule a made c
  traced (ks, stay) = (_, begins)
  traced (ks, r then moves h m) = let (made, t) = traced (_, r) in (_, continues t h m)

  pub untraced : {made : List (List ℕ)} {c : Config} → Traced s Rule a made c → Run (Step s Rule) a c
  untraced begins = (_, stay)
  untraced (continues t h m) = let (ks, r) = untraced t in (_, r then moves h m)

  pub made_length : {made : List (List ℕ)} {c : Config} → Traced s Rule a made c → length made ≡ length s.states
  made_length begins = length-replicate (length s.states) []
  made_length (continues t h m) = rw length-set (made_length t)

  pub made_put : {made : List (List ℕ)} {c : Config} {p : ℕ} (ts : List ℕ) → Traced s Rule a made c → p < length s.states
      → get_or (set made p ts) p [] ≡ ts
  made_put {made} {p = p} ts t h = get_or-set_same made p ts [] (rw (made_length t) h)

module _ {s : Program} {Rule : ℕ → View → Move → View → Type 0} where
  pub traced_sized : {made : List (List ℕ)} {c : Config} → Traced s Rule (start_of s (length s.states)) made c → Sized (length s.states) c
  traced_sized begins = record { states = length-replicate (length s.states) 0; queues = length-replicate (length s.states) [] }
  traced_sized (continues {p} {v} t h m) = sized_put p v (traced_sized t)

  module _ {made : List (List ℕ)} {c : Config} {p : ℕ} (t : Traced s Rule (start_of s (length s.states)) made c) (h : p < length s.states) where
    -- process p moves on, and the others wait
    pub moved : {v : View} {ts : List ℕ} → Makes (Rule p) (at c p) (get_or made p []) v ts
        → Traced s Rule (start_of s (length s.states)) (set made p ts) (put c p v)
    moved idle = rw (set-get_or made p [], put_at c p) t
    moved {v} (◌next◌ {b = u} {us} {k} r m) =
        rw (put_put c p u v, made_put us t h, set-set made p us (noted us k)) at
        (continues {k = k} {v = v} (moved r) h (rw (at_put (traced_sized t) h u) m))

    -- what then holds of each process: R of p, and of each other as it meets the new memory
    pub each_moved : {v : View} {ts : List ℕ} (R : ℕ → View → List ℕ → Type 0)
        → R p v ts
        → ((r : ℕ) → r < length s.states → r ≢ p → R r (view v.memory (at c r).state (at c r).queue) (get_or made r []))
        → (r : ℕ) → r < length s.states → R r (at (put c p v) r) (get_or (set made p ts) r [])
    each_moved {v} {ts} R new old r hr = ⊎_elim here there (cases_eq r p)
      where
        here : r ≡ p → R r (at (put c p v) r) (get_or (set made p ts) r [])
        here e = rw (e, at_put (traced_sized t) h v, made_put ts t h) new

        there : r ≢ p → R r (at (put c p v) r) (get_or (set made p ts) r [])
        there ne = rw (at_put_other c p r v ne, get_or-set_other made p r ts [] ne) (old r hr ne)
