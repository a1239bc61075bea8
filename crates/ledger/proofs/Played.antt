-- One call more.
use Rattle.std.proofs.Common.{ℕ, ◌+◌, ◌<◌, List, [], ◌∷◌, ◌++◌, length, get_or, take, set, sym, refl, subst}
use Rattle.std.proofs.lemmas.List.{take_more, take_more_set}
use Rattle.machines.specs.Kind.{Kind, Rules}
use Rattle.ledger.specs.declared.call.Answer.{Answer}
use Rattle.ledger.specs.declared.call.Call.{Call}
use Rattle.ledger.specs.declared.call.Deed.TheVariants.{Enter}
use Rattle.ledger.specs.Ledger.{Called, Played, State}

-- what Rattle reads past the end of a list of calls
abbrev pub no_call : Call
no_call = record { deed = Enter (record { ref_ptr = (0, 0); now = [] }); memory = 0; strip = 0; witness = 0 }

module _ (k : Kind) (u : Rules) (m : ℕ) where
  played_push : (b : State) (cs : List Call) (rs : List Answer) (b' b'' : State) (c : Call) (a : Answer) → Played k u m b cs rs b' → Called k u m c a b' b'' → Played k u m b (cs ++ c ∷ []) (rs ++ a ∷ []) b''
  played_push b [] [] b' b'' c a p l = (b'', subst (λ q. Called k u m c a q b'') p l, refl)
  played_push b (d ∷ cs) (e ∷ rs) b' b'' c a p l = (p.0, p.1, played_push p.0 cs rs b' b'' c a p.2 l)
  played_push b [] (e ∷ rs) b' b'' c a p l = absurd p
  played_push b (d ∷ cs) [] b' b'' c a p l = absurd p

  pub played_more : (b b' b'' : State) (calls : List Call) (rs : List Answer) (i : ℕ) (d : Call) (a : Answer) → i < length calls → i < length rs → Played k u m b (take i calls) (take i rs) b'
      → Called k u m (get_or calls i d) a b' b'' → Played k u m b (take (i + 1) calls) (take (i + 1) (set rs i a)) b''
  played_more b b' b'' calls rs i d a hc hr p l =
      subst (λ q. Played k u m b q (take (i + 1) (set rs i a)) b'') (sym (take_more calls i d hc))
      (subst (λ q. Played k u m b (take i calls ++ get_or calls i d ∷ []) q b'') (sym (take_more_set rs i a hr)) (played_push b (take i calls) (take i rs) b' b'' (get_or calls i d) a p l))
