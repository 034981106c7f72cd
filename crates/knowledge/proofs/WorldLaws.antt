-- The world reasoner keeps the laws, since it shows exactly what is true in every agreeing world. Assumes nothing.
use Rattle.std.proofs.Common.{◌≡◌, ℕ, zero, suc, ◌<◌, ◌≤◌, true, false, List, [], ◌∷◌, ◌++◌, length, sym, refl, ap, ◌∙◌, ⊎_elim, arith}
use Rattle.std.proofs.lemmas.Bool.{cases_lt, and_parts, and_from, both_ways}
use Rattle.literals.specs.Tables.{shows, is_full}
use Rattle.literals.proofs.Laws.{same_facts, is_full-shows, shows-is_full}
use Rattle.domain.specs.Sheet.{Sheet}
use Rattle.knowledge.specs.AllWorlds.{in_all_worlds, world_mind}
use Rattle.knowledge.specs.Questions.{Question, latest, in_reach, counts, true_at, Agrees, Askable}
use Rattle.knowledge.specs.Reasoning.{told_instead, one_more, Laws}
use Rattle.knowledge.specs.Worlds.{State, holds, next, after}
use Rattle.knowledge.proofs.Extended.{reach_more, reach_less}
use Rattle.knowledge.proofs.Narrowing.{in_all_worlds_table, shows_true}
use Rattle.knowledge.proofs.Reach.{reach_early, reach_full, full_reach}
use Rattle.knowledge.proofs.States.{same_tests}

-- what every agreeing world of one question makes true is shown, where another shows it and the worlds agree with that too
module _ (q p : Question) (asked : Askable q) (asked_too : Askable p) (t l : ℕ) where
  shown_too : in_reach p t l ≡ true → ((s : State) → Agrees p s → Agrees q s) → ((s : State) → true_at q s t l ≡ true_at p s t l)
      → shows (in_all_worlds q) t l ≡ true → shows (in_all_worlds p) t l ≡ true
  shown_too within less same h =
      (shows_true p asked_too).no_less t l within (λ s a. sym (same s) ∙ ((shows_true q asked).no_more t l h).1 s (less s a))

-- ---- told facts

module _ (q : Question) (asked : Askable q) where
  world_reach : (t l : ℕ) → shows (in_all_worlds q) t l ≡ true → in_reach q t l ≡ true
  world_reach t l h = ((shows_true q asked).no_more t l h).0

  world_sound : (s : State) → Agrees q s → (t l : ℕ) → shows (in_all_worlds q) t l ≡ true → true_at q s t l ≡ true
  world_sound s a t l h = ((shows_true q asked).no_more t l h).1 s a

  world_told : (t l : ℕ) → counts q t l ≡ true → shows (in_all_worlds q) t l ≡ true
  world_told t l h = (shows_true q asked).no_less t l (and_parts (shows q.told t l) (in_reach q t l) h).1 (λ s a. a.told_true t l h)

-- a world that agrees with more agrees with less
agrees_less : (q : Question) (told : List ℕ) → ((t l : ℕ) → counts q t l ≡ true → counts (told_instead q told) t l ≡ true)
    → (s : State) → Agrees (told_instead q told) s → Agrees q s
agrees_less q told more s a = record { world = a.world; told_true = λ t l h. a.told_true t l (more t l h) }

world_more_told : (q : Question) (told : List ℕ) → Askable q → Askable (told_instead q told)
    → ((t l : ℕ) → counts q t l ≡ true → counts (told_instead q told) t l ≡ true)
    → (t l : ℕ) → shows (in_all_worlds q) t l ≡ true → shows (in_all_worlds (told_instead q told)) t l ≡ true
world_more_told q told asked asked_more more t l h =
    shown_too q (told_instead q told) asked asked_more t l (world_reach q asked t l h) (agrees_less q told more) (λ s. refl) h

-- told what it shows, just the same worlds agree
module _ (q : Question) (asked : Askable q) where
  abbrev again : Question
  again = told_instead q (in_all_worlds q)

  again_asked : Askable again
  again_asked = record { lawful_sheet = asked.lawful_sheet; few = asked.few; table = in_all_worlds_table q }

  again_more : (t l : ℕ) → counts q t l ≡ true → counts again t l ≡ true
  again_more t l h =
      and_from (shows (in_all_worlds q) t l) (in_reach q t l) (world_told q asked t l h) (and_parts (shows q.told t l) (in_reach q t l) h).1

  agrees_again : (s : State) → Agrees q s → Agrees again s
  agrees_again s a =
      record { world = a.world; told_true = λ t l h. world_sound q asked s a t l (and_parts (shows (in_all_worlds q) t l) (in_reach q t l) h).0 }

  world_shown_told : in_all_worlds (told_instead q (in_all_worlds q)) ≡ in_all_worlds q
  world_shown_told =
      let table = in_all_worlds_table q in
      let table_again = in_all_worlds_table again in
      same_facts (in_all_worlds again) (in_all_worlds q) (table_again.long ∙ sym table.long) table_again.small table.small
      (λ t l.
      same_tests (shows (in_all_worlds again) t l) (shows (in_all_worlds q) t l)
      (λ h. shown_too again q again_asked asked t l (world_reach again again_asked t l h) agrees_again (λ s. refl) h)
      (world_more_told q (in_all_worlds q) asked again_asked again_more t l))

-- ---- one order or look more

-- the states up to the last moment stay as they are
after_more : (d : Sheet) (orders : List ℕ) (a : ℕ) (s : State) (t : ℕ) → t ≤ length orders → after d (orders ++ a ∷ []) s t ≡ after d orders s t
unfolding after
after_more d [] a s zero h = refl
after_more d [] a s (suc t) h = absurd (omega (arith, h))
after_more d (x ∷ orders) a s zero h = refl
after_more d (x ∷ orders) a s (suc t) h = after_more d orders a (next d x s) t (omega (arith, h))

module _ (q : Question) (a : ℕ) (asked : Askable q) (asked_more : Askable (one_more q a))
    (untold : (t l : ℕ) → latest q < t → shows q.told t l ≡ false) where
  abbrev p : Question
  p = one_more q a

  same_true : (s : State) (t l : ℕ) → t ≤ latest q → true_at p s t l ≡ true_at q s t l
  same_true s t l early = ap (λ (r : State). holds r l) (after_more q.sheet q.orders a s t early)

  -- just the same worlds agree
  agrees_shorter : (s : State) → Agrees p s → Agrees q s
  agrees_shorter s b =
      record {
        world = b.world;
        told_true = λ t l h.
            let parts = and_parts (shows q.told t l) (in_reach q t l) h in
            sym (same_true s t l (reach_early q t l parts.1)) ∙ b.told_true t l (and_from (shows q.told t l) (in_reach p t l) parts.0 (reach_more q a t l parts.1));
      }

  agrees_longer : (s : State) → Agrees q s → Agrees p s
  agrees_longer s b =
      record {
        world = b.world;
        told_true = λ t l h.
            let parts = and_parts (shows q.told t l) (in_reach p t l) h in
            ⊎_elim
            (λ (late : latest q < t). absurd (both_ways (shows q.told t l) (untold t l late) parts.0))
            (λ (early : t ≤ latest q).
            same_true s t l early ∙ b.told_true t l (and_from (shows q.told t l) (in_reach q t l) parts.0 (reach_less q a t l early parts.1)))
            (cases_lt (latest q) t);
      }

  world_later : (t l : ℕ) → t ≤ latest q → shows (in_all_worlds p) t l ≡ shows (in_all_worlds q) t l
  world_later t l early =
      same_tests (shows (in_all_worlds p) t l) (shows (in_all_worlds q) t l)
      (λ h. shown_too p q asked_more asked t l (reach_less q a t l early (world_reach p asked_more t l h)) agrees_longer (λ s. same_true s t l early) h)
      (λ h. shown_too q p asked asked_more t l (reach_more q a t l (world_reach q asked t l h)) agrees_shorter (λ s. sym (same_true s t l early)) h)

  world_not_fuller : is_full q.sheet.fluents (latest p) (in_all_worlds p) ≡ true → is_full q.sheet.fluents (latest q) (in_all_worlds q) ≡ true
  world_not_fuller h =
      shows-is_full q.sheet.fluents (latest q) (in_all_worlds q) (in_all_worlds_table q).long
      (λ t l k.
      let within = full_reach q asked t l k in
      sym (world_later t l (reach_early q t l within))
      ∙ is_full-shows q.sheet.fluents (latest p) (in_all_worlds p) (in_all_worlds_table p).long h t l (reach_full p asked_more t l (reach_more q a t l within)))

-- ---- the laws

pub world_laws : Laws world_mind
world_laws =
    record {
      table = λ q w. in_all_worlds_table q;
      reach = λ q w t l h. world_reach q w.askable t l h;
      told_shown = λ q w t l h. world_told q w.askable t l h;
      more_told = λ q told w x more t l h. world_more_told q told w.askable x.askable more t l h;
      shown_told = λ q w. world_shown_told q w.askable;
      sound = λ q w s agrees t l h. world_sound q w.askable s agrees t l h;
      later = λ q a w x untold t l soon. world_later q a w.askable x.askable untold t l soon;
      not_fuller = λ q a w x untold h. world_not_fuller q a w.askable x.askable untold h;
    }
