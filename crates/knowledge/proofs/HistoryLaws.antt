-- The history reasoner shows what is known and keeps the laws, given that its closure is the least closed table. Assumes nothing.
use Rattle.std.proofs.Common.{◌≡◌, ℕ, ◌<◌, ◌≤◌, true, false, ◌⊎◌, List, sym, refl, ap, ◌∙◌, subst, inl, inr, ⊎_elim, arith}
use Rattle.std.proofs.lemmas.Bool.{cases_Bool, and_parts, and_from}
use Rattle.literals.specs.Literals.{opposite}
use Rattle.literals.specs.Tables.{shows, full, is_full}
use Rattle.literals.proofs.Laws.{length-full, full_sets, same_facts, is_full-shows, full-is_full}
use Rattle.knowledge.specs.Exact.{Consistent, ShowsKnown}
use Rattle.knowledge.specs.Questions.{Question, latest, in_reach, counts, true_at, Agrees, IsTable, Askable}
use Rattle.knowledge.specs.Reasoning.{told_instead, one_more, Laws}
use Rattle.knowledge.specs.Rules.{Facts, Closed, Known}
use Rattle.knowledge.specs.Sweeps.{closure, clash, history}
use Rattle.knowledge.specs.Worlds.{State, after}
use Rattle.knowledge.proofs.States.{same_tests}
use Rattle.knowledge.proofs.Closing.{closure_least as least_of}
use Rattle.knowledge.proofs.Clashing.{Clashes, clash_some, clash_none}
use Rattle.knowledge.proofs.Extended.{reach_more, reach_less, more_calm, more_shown, less_shown}
use Rattle.knowledge.proofs.Lawful.{fluents_few}
use Rattle.knowledge.proofs.Moving.{not_both}
use Rattle.knowledge.proofs.Reach.{reached, least_reach, shown_is_known, known_is_shown, reach_full, full_reach}
use Rattle.knowledge.proofs.Sound.{true_closed}

-- nothing clashes among the facts that follow, and the reasoner shows them
pub record Calm (q : Question) : Type 0 where
  pub clash_free : Clashes (closure q) → ⊥
  pub is_closure : history q ≡ closure q

-- some of them clash, and it shows the full table
pub record Upset (q : Question) : Type 0 where
  pub clashes : Clashes (closure q)
  pub is_full_table : history q ≡ full q.sheet.fluents (latest q)

-- what is closed where more is told is closed where less is
pub told_less : (q : Question) (told : List ℕ) → ((t l : ℕ) → counts q t l ≡ true → counts (told_instead q told) t l ≡ true)
    → (k : Facts) → Closed (told_instead q told) k → Closed q k
told_less q told more k closed =
    record { initially = closed.initially; as_told = λ t l h. closed.as_told t l (more t l h); one_of = closed.one_of; between = closed.between }

-- both literals of the first fluent are in reach at moment 0
module _ (q : Question) (asked : Askable q) where
  pub first_reach : in_reach q 0 0 ≡ true
  first_reach = reached q 0 0 (omega arith) (omega (arith, (fluents_few q.sheet asked.lawful_sheet).0))

  pub second_reach : in_reach q 0 (opposite 0) ≡ true
  second_reach = reached q 0 (opposite 0) (omega arith) (omega (arith, (fluents_few q.sheet asked.lawful_sheet).0))

pub calm_or_upset : (q : Question) → Askable q → Calm q ⊎ Upset q
unfolding history
calm_or_upset q asked =
    ⊎_elim
    (λ (h : clash (closure q) ≡ true). inr (record { clashes = clash_some (closure q) (least_of q asked).table.small h; is_full_table = rw h refl }))
    (λ (h : clash (closure q) ≡ false). inl (record { clash_free = clash_none (closure q) h; is_closure = rw h refl }))
    (cases_Bool (clash (closure q)))

-- by cases of the clash
pub by_clash : (q : Question) → Askable q → (P : List ℕ → Type 0) → ((Clashes (closure q) → ⊥) → P (closure q))
    → (Clashes (closure q) → P (full q.sheet.fluents (latest q))) → P (history q)
by_clash q asked P calm upset =
    ⊎_elim
    (λ (c : Calm q). subst P (sym c.is_closure) (calm c.clash_free))
    (λ (u : Upset q). subst P (sym u.is_full_table) (upset u.clashes))
    (calm_or_upset q asked)

pub upset_full : (q : Question) → Askable q → Clashes (closure q) → history q ≡ full q.sheet.fluents (latest q)
upset_full q asked c = ⊎_elim (λ (k : Calm q). absurd (k.clash_free c)) (λ (u : Upset q). u.is_full_table) (calm_or_upset q asked)

pub calm_closure : (q : Question) → Askable q → (Clashes (closure q) → ⊥) → history q ≡ closure q
calm_closure q asked none = ⊎_elim (λ (k : Calm q). k.is_closure) (λ (u : Upset q). absurd (none u.clashes)) (calm_or_upset q asked)

-- ---- what is known

pub closure_known : (q : Question) → Askable q → (t l : ℕ) → shows (closure q) t l ≡ true → Known q t l
closure_known q asked t l h = shown_is_known q (closure q) (least_of q asked) t l h

pub known_closure : (q : Question) → Askable q → (t l : ℕ) → Known q t l → shows (closure q) t l ≡ true
known_closure q asked t l known = known_is_shown q (closure q) (least_of q asked) t l known

-- where some facts clash, what is known is not consistent
clash_inconsistent : (q : Question) → Askable q → Clashes (closure q) → Consistent q → ⊥
clash_inconsistent q asked c consistent =
    let t = c.moment in
    let l = c.literal in
    consistent t l (closure_known q asked t l c.here) (closure_known q asked t (opposite l) c.opposed)

-- the reasoner shows exactly what is known, where that is consistent, and otherwise the full table
pub shows_known : (q : Question) → Askable q → ShowsKnown q (history q)
shows_known q asked =
    by_clash q asked (ShowsKnown q)
    (λ none.
    record {
      no_more = λ consistent t l h. closure_known q asked t l h;
      no_less = λ consistent t l known. known_closure q asked t l known;
      otherwise = λ t l known against.
          absurd (none (record { moment = t; literal = l; here = known_closure q asked t l known; opposed = known_closure q asked t (opposite l) against }));
    })
    (λ c.
    record {
      no_more = λ consistent t l h. absurd (clash_inconsistent q asked c consistent);
      no_less = λ consistent t l known. absurd (clash_inconsistent q asked c consistent);
      otherwise = λ t l known against. refl;
    })

-- ---- the table, its reach and the told facts

pub history_table : (q : Question) → Askable q → IsTable (history q)
history_table q asked =
    by_clash q asked IsTable (λ none. (least_of q asked).table)
    (λ c. record { long = length-full q.sheet.fluents (latest q); small = full_sets q.sheet.fluents (latest q) })

pub history_reach : (q : Question) → Askable q → (t l : ℕ) → shows (history q) t l ≡ true → in_reach q t l ≡ true
history_reach q asked t l =
    by_clash q asked (λ sets. shows sets t l ≡ true → in_reach q t l ≡ true)
    (λ none h. least_reach q asked.lawful_sheet (closure q) (least_of q asked) t l h)
    (λ c h. full_reach q asked t l h)

-- each fact that follows by the rules is shown
pub closure_shown : (q : Question) → Askable q → (t l : ℕ) → shows (closure q) t l ≡ true → shows (history q) t l ≡ true
closure_shown q asked t l h =
    by_clash q asked (λ sets. shows sets t l ≡ true) (λ none. h) (λ c. reach_full q asked t l (least_reach q asked.lawful_sheet (closure q) (least_of q asked) t l h))

pub history-told : (q : Question) → Askable q → (t l : ℕ) → counts q t l ≡ true → shows (history q) t l ≡ true
history-told q asked t l h = closure_shown q asked t l ((least_of q asked).closed.as_told t l h)

-- a clash stays where more is shown
still : (xs ys : List ℕ) → ((t l : ℕ) → shows xs t l ≡ true → shows ys t l ≡ true) → Clashes xs → Clashes ys
still xs ys more c =
    record { moment = c.moment; literal = c.literal; here = more c.moment c.literal c.here; opposed = more c.moment (opposite c.literal) c.opposed }

-- ---- more told

module _ (q : Question) (told : List ℕ) (asked : Askable q) (asked_more : Askable (told_instead q told))
    (more : (t l : ℕ) → counts q t l ≡ true → counts (told_instead q told) t l ≡ true) where
  more_follows : (t l : ℕ) → shows (closure q) t l ≡ true → shows (closure (told_instead q told)) t l ≡ true
  more_follows t l h =
      (least_of q asked).least (λ u m. shows (closure (told_instead q told)) u m) (told_less q told more _ (least_of (told_instead q told) asked_more).closed) t l h

  pub history-more_told : (t l : ℕ) → shows (history q) t l ≡ true → shows (history (told_instead q told)) t l ≡ true
  history-more_told t l h =
      by_clash (told_instead q told) asked_more (λ sets. shows sets t l ≡ true)
      (λ none.
      let same : history q ≡ closure q = calm_closure q asked (λ c. none (still (closure q) (closure (told_instead q told)) more_follows c)) in
      more_follows t l (subst (λ sets. shows sets t l ≡ true) same h))
      (λ c. reach_full (told_instead q told) asked_more t l (history_reach q asked t l h))

-- ---- told what it shows

module _ (q : Question) (asked : Askable q) where
  told_asked : (sets : List ℕ) → IsTable sets → Askable (told_instead q sets)
  told_asked sets table = record { lawful_sheet = asked.lawful_sheet; few = asked.few; table = table }

  abbrev again : Question
  again = told_instead q (closure q)

  again_asked : Askable again
  again_asked = told_asked (closure q) (least_of q asked).table

  again_told : (t l : ℕ) → counts q t l ≡ true → counts again t l ≡ true
  again_told t l h =
      and_from (shows (closure q) t l) (in_reach q t l) ((least_of q asked).closed.as_told t l h) (and_parts (shows q.told t l) (in_reach q t l) h).1

  again_closed : Closed again (λ t l. shows (closure q) t l)
  again_closed =
      let closed = (least_of q asked).closed in
      record { initially = closed.initially; as_told = λ t l h. (and_parts (shows (closure q) t l) (in_reach q t l) h).0; one_of = closed.one_of; between = closed.between }

  again_same : closure again ≡ closure q
  again_same =
      let r = least_of again again_asked in
      let s = least_of q asked in
      same_facts (closure again) (closure q) (r.table.long ∙ sym s.table.long) r.table.small s.table.small
      (λ t l.
      same_tests (shows (closure again) t l) (shows (closure q) t l)
      (r.least (λ u m. shows (closure q) u m) again_closed t l)
      (more_follows q (closure q) asked again_asked again_told t l))

  calm_told : (Clashes (closure q) → ⊥) → history (told_instead q (closure q)) ≡ closure q
  calm_told none = calm_closure again again_asked (λ c. none (subst Clashes again_same c)) ∙ again_same

  abbrev filled_again : Question
  filled_again = told_instead q (full q.sheet.fluents (latest q))

  full_asked : Askable filled_again
  full_asked = told_asked (full q.sheet.fluents (latest q)) (record { long = length-full q.sheet.fluents (latest q); small = full_sets q.sheet.fluents (latest q) })

  full_follows : (t l : ℕ) → in_reach q t l ≡ true → shows (closure filled_again) t l ≡ true
  full_follows t l h =
      (least_of filled_again full_asked).closed.as_told t l (and_from (shows (full q.sheet.fluents (latest q)) t l) (in_reach q t l) (reach_full q asked t l h) h)

  full-told : history (told_instead q (full q.sheet.fluents (latest q))) ≡ full q.sheet.fluents (latest q)
  full-told =
      upset_full filled_again full_asked
      (record { moment = 0; literal = 0; here = full_follows 0 0 (first_reach q asked); opposed = full_follows 0 (opposite 0) (second_reach q asked) })

  pub history-shown_told : history (told_instead q (history q)) ≡ history q
  history-shown_told = by_clash q asked (λ sets. history (told_instead q sets) ≡ sets) calm_told (λ c. full-told)

-- ---- every world that agrees

module _ (q : Question) (asked : Askable q) (s : State) (agrees : Agrees q s) where
  closure_true : (t l : ℕ) → shows (closure q) t l ≡ true → true_at q s t l ≡ true
  closure_true t l h = (least_of q asked).least (λ u m. true_at q s u m) (true_closed q s asked.lawful_sheet agrees) t l h

  pub history_sound : (t l : ℕ) → shows (history q) t l ≡ true → true_at q s t l ≡ true
  history_sound t l =
      by_clash q asked (λ sets. shows sets t l ≡ true → true_at q s t l ≡ true)
      (λ none h. closure_true t l h)
      (λ c h.
      absurd
      (not_both (after q.sheet q.orders s c.moment) c.literal
      (closure_true c.moment c.literal c.here) (closure_true c.moment (opposite c.literal) c.opposed)))

-- ---- one order or look more

module _ (q : Question) (a : ℕ) (asked : Askable q) (asked_more : Askable (one_more q a))
    (untold : (t l : ℕ) → latest q < t → shows q.told t l ≡ false) where
  abbrev p : Question
  p = one_more q a

  follows_more : (t l : ℕ) → shows (closure q) t l ≡ true → shows (closure p) t l ≡ true
  follows_more = less_shown q a (closure q) (closure p) (least_of q asked) (least_of p asked_more)

  calm_more : (Clashes (closure q) → ⊥) → Clashes (closure p) → ⊥
  calm_more none = more_calm q a asked.lawful_sheet (closure q) (least_of q asked) none untold (closure p) (least_of p asked_more)

  pub history_later : (t l : ℕ) → t ≤ latest q → shows (history p) t l ≡ shows (history q) t l
  history_later t l soon =
      by_clash q asked (λ sets. shows (history p) t l ≡ shows sets t l)
      (λ none.
      ap (λ sets. shows sets t l) (calm_closure p asked_more (calm_more none))
      ∙ same_tests (shows (closure p) t l) (shows (closure q) t l)
      (more_shown q a asked.lawful_sheet (closure q) (least_of q asked) none untold (closure p) (least_of p asked_more) t l soon)
      (follows_more t l))
      (λ c.
      ap (λ sets. shows sets t l) (upset_full p asked_more (still (closure q) (closure p) follows_more c))
      ∙ same_tests (shows (full q.sheet.fluents (latest p)) t l) (shows (full q.sheet.fluents (latest q)) t l)
      (λ h. reach_full q asked t l (reach_less q a t l soon (full_reach p asked_more t l h)))
      (λ h. reach_full p asked_more t l (reach_more q a t l (full_reach q asked t l h))))

  pub history-not_fuller : is_full q.sheet.fluents (latest p) (history p) ≡ true → is_full q.sheet.fluents (latest q) (history q) ≡ true
  history-not_fuller h =
      by_clash q asked (λ sets. is_full q.sheet.fluents (latest q) sets ≡ true)
      (λ none.
      let all_there : is_full q.sheet.fluents (latest p) (closure p) ≡ true =
      subst (λ sets. is_full q.sheet.fluents (latest p) sets ≡ true) (calm_closure p asked_more (calm_more none)) h in
      let shown : (t l : ℕ) → in_reach p t l ≡ true → shows (closure p) t l ≡ true = λ t l k.
      is_full-shows q.sheet.fluents (latest p) (closure p) (least_of p asked_more).table.long all_there t l (reach_full p asked_more t l k) in
      absurd
      (calm_more none
      (record { moment = 0; literal = 0; here = shown 0 0 (first_reach p asked_more); opposed = shown 0 (opposite 0) (second_reach p asked_more) })))
      (λ c. full-is_full q.sheet.fluents (latest q))

-- ---- the laws

pub history_laws : Laws (record { largest = 32; meaning = history })
history_laws =
    record {
      table = λ q w. history_table q w.askable;
      reach = λ q w t l h. history_reach q w.askable t l h;
      told_shown = λ q w t l h. history-told q w.askable t l h;
      more_told = λ q told w x more t l h. history-more_told q told w.askable x.askable more t l h;
      shown_told = λ q w. history-shown_told q w.askable;
      sound = λ q w s agrees t l h. history_sound q w.askable s agrees t l h;
      later = λ q a w x untold t l soon. history_later q a w.askable x.askable untold t l soon;
      not_fuller = λ q a w x untold h. history-not_fuller q a w.askable x.askable untold h;
    }
