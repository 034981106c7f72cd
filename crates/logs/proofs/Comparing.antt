-- What a comparison of two logs decides. Assumes nothing.
use Rattle.std.proofs.Common.{◌≡◌, ℕ, ◌≤◌, Bool, true, false, cond, ◌&&◌, leb, List, length, IfOk, Ok, Err, Result, sym, refl, ap, ◌∙◌, subst}
use Rattle.std.proofs.lemmas.Bool.{and_parts, and_from, leb-true}
use Rattle.literals.specs.Tables.{shows, common}
use Rattle.literals.proofs.Laws.{same_decides, same_facts, length-common, shows-common, common_sets}
use Rattle.knowledge.specs.Questions.{IsTable, Askable}
use Rattle.knowledge.specs.Reasoning.{Mind, Laws}
use Rattle.knowledge.proofs.Laws.{same_tests}
use Rattle.logs.specs.Calls.{State, asked_with, history, within, comparing}
use Rattle.logs.specs.Runs.{Decided}
use Rattle.logs.specs.declared.refusal.Refusal.{Refusal}

module _ (xs ys : List ℕ) (one : IsTable xs) (other : length ys ≡ 33) where
  long : length xs ≡ length ys
  long = one.long ∙ sym other

  pub within_shown : within xs ys ≡ true → (t l : ℕ) → shows xs t l ≡ true → shows ys t l ≡ true
  within_shown h t l fact =
      let shared = ap (λ sets. shows sets t l) ((same_decides (common xs ys) xs).0 h) ∙ fact in
      (and_parts (shows xs t l) (shows ys t l) (sym (shows-common xs ys long t l) ∙ shared)).1

  pub shown_within : ((t l : ℕ) → shows xs t l ≡ true → shows ys t l ≡ true) → within xs ys ≡ true
  shown_within every =
      (same_decides (common xs ys) xs).1
      (same_facts (common xs ys) xs (length-common xs ys long) (common_sets xs ys long one.small) one.small
      (λ t l. shows-common xs ys long t l ∙ same_tests _ (shows xs t l) (λ h. (and_parts (shows xs t l) (shows ys t l) h).0) (λ h. and_from (shows xs t l) (shows ys t l) h (every t l h))))

module _ (m n : Mind) (laws : Laws m) (other_laws : Laws n) (st ot : State) (asked : Askable (asked_with st st.told)) (other_asked : Askable (asked_with ot ot.told)) where
  decides : st.sheet.fluents ≤ m.largest → ot.sheet.fluents ≤ n.largest → Decided (within st.told (history n ot) && within ot.told (history m st)) m n st ot
  decides few other-few =
      let shown = laws.table (asked_with st st.told) (record { askable = asked; within = few }) in
      let other_shown = other_laws.table (asked_with ot ot.told) (record { askable = other_asked; within = other-few }) in
      record {
        if_so = λ h.
            let both = and_parts (within st.told (history n ot)) (within ot.told (history m st)) h in
            (within_shown st.told (history n ot) asked.table other_shown.long both.0, within_shown ot.told (history m st) other_asked.table shown.long both.1);
        so_if = λ h k. and_from (within st.told (history n ot)) (within ot.told (history m st)) (shown_within st.told (history n ot) asked.table other_shown.long h) (shown_within ot.told (history m st) other_asked.table shown.long k);
      }

  by_tests : (b c : Bool) (e f : Refusal) → (b ≡ true → st.sheet.fluents ≤ m.largest) → (c ≡ true → ot.sheet.fluents ≤ n.largest)
      → IfOk (cond b (cond c (Ok (within st.told (history n ot) && within ot.told (history m st))) (Err f)) (Err e)) (λ x. Decided x m n st ot)
  by_tests true true e f few other-few = decides (few refl) (other-few refl)
  by_tests true false e f few other-few = tt
  by_tests false c e f few other-few = tt

  pub decided : (r : Result Bool Refusal) → r ≡ comparing m n st ot → IfOk r (λ x. Decided x m n st ot)
  decided r is =
      subst (λ x. IfOk x (λ y. Decided y m n st ot)) (sym is)
      (by_tests (leb st.sheet.fluents m.largest) (leb ot.sheet.fluents n.largest) _ _ (leb-true _ _) (leb-true _ _))
