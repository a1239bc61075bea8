-- Every store-buffer run is matched by a load-buffer run.
use Rattle.std.proofs.Common.{◌≡◌, ℕ, zero, suc, ◌<◌, ◌≤◌, List, [], length, get_or, set, replicate, sym, refl, ◌∙◌, arith}
use lib.ListN.{get_or-replicate}
use Rattle.std.specs.List.{AllByRecursion}
use Rattle.std.proofs.ByRecursion.{All-from_get_or}
use Rattle.std.proofs.lemmas.List.{ext_get_or, get_or-set_other}
use Rattle.files.specs.Program.{Program}
use Rattle.machines.specs.Message.{Queue}
use Rattle.machines.specs.Config.{Config, View, view, at, put}
use Rattle.machines.specs.Step.{noted, Traced, begins, continues}
use Rattle.machines.specs.StoreBuffers.{StoreRule, store_start}
use Rattle.machines.specs.LoadBuffers.{LoadRule, load_start}
use Rattle.machines.specs.Predecessors.{AllDrawn}
use Rattle.machines.specs.Matched.{StoreTraced, StoreMatched, StoreSafe, LoadSafe}
use Rattle.machines.proofs.Configs.{at_put, at_put_other}
use Rattle.machines.proofs.Runs.{traced, untraced, made_length, made_put, traced_sized, moved, each_moved}
use Rattle.machines.proofs.Pending.{Pending}
use Rattle.machines.proofs.Following.{Behind, follow, levelled, updated}

module _ (s : Program) where
  abbrev n : ℕ
  n = length s.states

  abbrev Stores : List (List ℕ) → Config → Type 0
  Stores = Traced s (StoreRule s) (store_start s)

  -- a load-buffer run to d with the transitions ts, and R of each process in c and in d
  record Beside (R : ℕ → View → List ℕ → View → List ℕ → Type 0) (us : List (List ℕ)) (c : Config) : Type 0 where
    ts : List (List ℕ)
    d : Config
    run : Traced s (LoadRule s) (load_start s) ts d
    each : (p : ℕ) → p < n → R p (at c p) (get_or us p []) (at d p) (get_or ts p [])

  follow_run : {us : List (List ℕ)} {c : Config} → AllDrawn s → Stores us c → Beside (Behind s) us c
  follow_run all begins =
      record {
        ts = replicate n [];
        d = load_start s;
        run = begins;
        each = λ p h. rw (get_or-replicate {A = ℕ} n p 0 0 h, get_or-replicate {A = Queue} n p [] [] h, get_or-replicate {A = List ℕ} n p [] [] h)
            (record { memory = refl; pending = Pending.level });
      }
  follow_run all (continues {c} {made} {p} {k} {v} run h m) =
      let b = follow_run all run in
      let (w, ts, makes, new) = follow all (at b.d p) m (b.each p h) in
      let us = noted (get_or made p []) k in
      record {
        ts = set b.ts p ts;
        d = put b.d p w;
        run = moved b.run h makes;
        each = each_moved b.run h (λ r u l. Behind s r (at (put c p v) r) (get_or (set made p us) r []) u l)
            (rw (at_put (traced_sized run) h v, made_put us run h) new)
            (λ r hr ne. rw (at_put_other c p r v ne, get_or-set_other made p r us [] ne) (record { memory = new.memory; pending = (b.each r hr).pending }));
      }

  -- of process p, where the first k have caught up, with empty queues, and the others are behind
  record CaughtAt (k p : ℕ) (v : View) (us : List ℕ) (w : View) (ts : List ℕ) : Type 0 where
    level : p < k → (w.state ≡ v.state) × (w.queue ≡ []) × (ts ≡ us)
    pending : k ≤ p → Pending s p w.queue [] w.state ts v.queue v.state us

  -- process k catches up too
  one_more : {k : ℕ} {us : List (List ℕ)} {c : Config} → k < n → Beside (CaughtAt k) us c → Beside (CaughtAt (suc k)) us c
  one_more {k} {us} {c} h b =
      record {
        ts = set b.ts k (get_or us k []);
        d = put b.d k (view (updated b.d.memory (at c k).queue) (at c k).state []);
        run = moved b.run h (levelled (at b.d k) ((b.each k h).pending (omega arith)));
        each = each_moved b.run h (λ p w ts. CaughtAt (suc k) p (at c p) (get_or us p []) w ts)
            (record { level = λ l. (refl, refl, refl); pending = λ l. absurd (omega arith) })
            (λ p hp ne. record { level = λ l. (b.each p hp).level (omega arith); pending = λ l. (b.each p hp).pending (omega arith) });
      }

  catch_up : (k : ℕ) {us : List (List ℕ)} {c : Config} → k ≤ n → Beside (Behind s) us c → Beside (CaughtAt k) us c
  catch_up zero h b =
      record {
        ts = b.ts;
        d = b.d;
        run = b.run;
        each = λ p hp. record { level = λ l. absurd (omega arith); pending = λ l. (b.each p hp).pending };
      }
  catch_up (suc k) h b = one_more h (catch_up k (omega arith) b)

  -- all have caught up
  module _ {us : List (List ℕ)} {c : Config} (run : Stores us c) (b : Beside (CaughtAt n) us c) where
    same_states : b.d.states ≡ c.states
    same_states =
        let e = (traced_sized b.run).states in
        ext_get_or 0 b.d.states c.states (e ∙ sym (traced_sized run).states) (λ p l. let h : p < n = rw e at l in ((b.each p h).level h).0)

    no_messages : AllByRecursion (λ q. q ≡ []) b.d.queues
    no_messages =
        All-from_get_or (λ q. q ≡ []) b.d.queues [] (λ p l. let h : p < n = rw (traced_sized b.run).queues at l in ((b.each p h).level h).1)

    same_made : b.ts ≡ us
    same_made =
        let e = made_length b.run in
        ext_get_or [] b.ts us (e ∙ sym (made_length run)) (λ p l. let h : p < n = rw e at l in ((b.each p h).level h).2)

  pub store_traced : AllDrawn s → StoreTraced s
  store_traced all c us run =
      let b = catch_up n (omega arith) (follow_run all run) in
      (b.d, rw (same_made run b) at b.run, same_states run b, no_messages run b)

  pub store_matched : AllDrawn s → StoreMatched s
  store_matched all c run bad =
      let (us, stores) = traced run in
      let (d, loads, same, empty) = store_traced all c us stores in
      (d, untraced loads, (rw same bad, empty))

  pub store_safe : AllDrawn s → LoadSafe s → StoreSafe s
  store_safe all safe c run bad = let (d, loads, ends) = store_matched all c run bad in safe d loads ends
