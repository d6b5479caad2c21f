-- The answers of a run, one by one and by their places.
use Rattle.std.proofs.Common.{◌≡◌, ℕ, zero, suc, ◌<◌, List, [], ◌∷◌, ◌++◌, length, get_or, take, sym, refl, ap, ◌∙◌, subst, append_assoc, append-nil, not-suc-le-zero, arith}
use Rattle.computer.specs.Ledgers.{Meanings, Ledger}
use Rattle.history.specs.declared.call.Call.{Call}
use Rattle.history.specs.Histories.{Answer, step, ledger_after, AnswerOf, Answered, Ran}

module _ {G T P : Type 0} (m : Meanings G T P) where
  -- ---- a loop over the calls

  -- right answers to the calls left make right answers to all of them, after those that are there
  abbrev pub Served : (start now : Ledger G T P) (all left : List (Call T)) (out : List Answer) → Type 0
  Served start now all left out = (rest : List Answer) → Answered m now left rest → Answered m start all (out ++ rest)

  pub one_more : (start now after : Ledger G T P) (all left left' : List (Call T)) (call : Call T) (answer : Answer) (out out' : List Answer) → Served start now all left out → left ≡ call ∷ left' → AnswerOf m now call answer → after ≡ step m now call → out' ≡ out ++ (answer ∷ []) → Served start after all left' out'
  one_more start now after all left left' call answer out out' served next told stepped pushed rest h =
      let further = subst (λ (l : Ledger G T P). Answered m l left' rest) stepped h in
      let from_here = subst (λ (calls : List (Call T)). Answered m now calls (answer ∷ rest)) (sym next) (told, further) in
      let joined : out' ++ rest ≡ out ++ (answer ∷ rest) = ap (λ (o : List Answer). o ++ rest) pushed ∙ append_assoc out (answer ∷ []) rest in
      subst (λ (answers : List Answer). Answered m start all answers) (sym joined) (served (answer ∷ rest) from_here)

  pub none_left : (start now : Ledger G T P) (all left : List (Call T)) (out : List Answer) → Served start now all left out → left ≡ [] → Answered m start all out
  none_left start now all left out served gone =
      subst (λ (answers : List Answer). Answered m start all answers) (append-nil out)
      (served [] (subst (λ (calls : List (Call T)). Answered m now calls []) (sym gone) tt))

  -- ---- places

  -- answers one by one are answers at every place
  answered_all : (l : Ledger G T P) (calls : List (Call T)) (answers : List Answer) → Answered m l calls answers → length answers ≡ length calls
  answered_all l [] [] h = refl
  answered_all l [] (a ∷ rest) h = absurd h
  answered_all l (c ∷ cs) [] h = absurd h
  answered_all l (c ∷ cs) (a ∷ rest) h = ap suc (answered_all (step m l c) cs rest h.1)

  answered_each : (l : Ledger G T P) (calls : List (Call T)) (answers : List Answer) → Answered m l calls answers → (k : ℕ) → k < length calls → (call : Call T) (answer : Answer) → AnswerOf m (ledger_after m l (take k calls)) (get_or calls k call) (get_or answers k answer)
  answered_each l [] answers h k less call answer = absurd (not-suc-le-zero less)
  answered_each l (c ∷ cs) [] h k less call answer = absurd h
  answered_each l (c ∷ cs) (a ∷ rest) h zero less call answer = h.0
  answered_each l (c ∷ cs) (a ∷ rest) h (suc k) less call answer = answered_each (step m l c) cs rest h.1 k (omega arith) call answer

  pub ran : (l : Ledger G T P) (calls : List (Call T)) (answers : List Answer) → Answered m l calls answers → Ran m l calls answers
  ran l calls answers h = record { all = answered_all l calls answers h; each = answered_each l calls answers h }
