-- A reasoner that shows the told facts that count, and nothing else. Assumes nothing.
use Rattle.std.specs.Prelude.{◌≡◌, ℕ, suc, ◌≤◌, true, List}
use Rattle.std.proofs.Common.{sym, ◌∙◌}
use Rattle.std.proofs.lemmas.Bool.{and_parts, and_from}
use Rattle.literals.specs.Tables.{shows, empty, is_full}
use Rattle.literals.proofs.Laws.{same_facts, is_full-shows, shows-is_full}
use Rattle.knowledge.specs.Questions.{Question, latest, in_reach, counts, IsTable, Askable}
use Rattle.knowledge.specs.Reasoning.{Mind, Laws, told_instead, one_more}
use Rattle.knowledge.specs.Sweeps.{told_from}
use Rattle.knowledge.proofs.Laws.{base_table, base_shows, reach_full, full_reach, reach_early, reach_more, reach_less, same_tests}

-- the table of the told facts that count
abbrev telling : Question → List ℕ
telling q = told_from q.sheet.fluents q.told (suc (latest q)) 0 empty

abbrev pub teller_mind : Mind
teller_mind = record { largest = 32; meaning = λ q. told_from q.sheet.fluents q.told (suc (latest q)) 0 empty }

module _ (q : Question) (asked : Askable q) where
  shown_counts : (t l : ℕ) → shows (telling q) t l ≡ true → counts q t l ≡ true
  shown_counts t l h = sym (base_shows q asked t l) ∙ h

  counts_shown : (t l : ℕ) → counts q t l ≡ true → shows (telling q) t l ≡ true
  counts_shown t l h = base_shows q asked t l ∙ h

  shown_reach : (t l : ℕ) → shows (telling q) t l ≡ true → in_reach q t l ≡ true
  shown_reach t l h = (and_parts (shows q.told t l) (in_reach q t l) (shown_counts t l h)).1

-- told what it shows, it shows the same
telling_again : (q : Question) → Askable q → telling (told_instead q (telling q)) ≡ telling q
telling_again q asked =
    let table : IsTable (telling q) = base_table q asked in
    let again : Askable (told_instead q (telling q)) = record { lawful_sheet = asked.lawful_sheet; few = asked.few; table = table } in
    let made : IsTable (telling (told_instead q (telling q))) = base_table (told_instead q (telling q)) again in
    same_facts (telling (told_instead q (telling q))) (telling q) (made.long ∙ sym table.long) made.small table.small
    (λ t l.
    same_tests (shows (telling (told_instead q (telling q))) t l) (shows (telling q) t l)
    (λ h. (and_parts (shows (telling q) t l) (in_reach q t l) (shown_counts (told_instead q (telling q)) again t l h)).0)
    (λ h. counts_shown (told_instead q (telling q)) again t l (and_from (shows (telling q) t l) (in_reach q t l) h (shown_reach q asked t l h))))

module _ (q : Question) (a : ℕ) (asked : Askable q) (asked_more : Askable (one_more q a)) where
  -- one order or look more alters nothing in reach up to the old now
  telling_later : (t l : ℕ) → t ≤ latest q → shows (telling (one_more q a)) t l ≡ shows (telling q) t l
  telling_later t l soon =
      same_tests (shows (telling (one_more q a)) t l) (shows (telling q) t l)
      (λ h.
      let parts = and_parts (shows q.told t l) (in_reach (one_more q a) t l) (shown_counts (one_more q a) asked_more t l h) in
      counts_shown q asked t l (and_from (shows q.told t l) (in_reach q t l) parts.0 (reach_less q a t l soon parts.1)))
      (λ h.
      let parts = and_parts (shows q.told t l) (in_reach q t l) (shown_counts q asked t l h) in
      counts_shown (one_more q a) asked_more t l (and_from (shows q.told t l) (in_reach (one_more q a) t l) parts.0 (reach_more q a t l parts.1)))

  telling_not_fuller : is_full q.sheet.fluents (latest (one_more q a)) (telling (one_more q a)) ≡ true → is_full q.sheet.fluents (latest q) (telling q) ≡ true
  telling_not_fuller h =
      let F = q.sheet.fluents in
      shows-is_full F (latest q) (telling q) (base_table q asked).long
      (λ t l fact.
      let near = full_reach q asked t l fact in
      sym (telling_later t l (reach_early q t l near))
      ∙ is_full-shows F (latest (one_more q a)) (telling (one_more q a)) (base_table (one_more q a) asked_more).long h t l (reach_full (one_more q a) asked_more t l (reach_more q a t l near)))

-- it keeps the laws
pub teller_laws : Laws teller_mind
teller_laws =
    record {
      table = λ q w. base_table q w.askable;
      reach = λ q w t l h. shown_reach q w.askable t l h;
      told_shown = λ q w t l h. counts_shown q w.askable t l h;
      more_told = λ q told w x more t l h. counts_shown (told_instead q told) x.askable t l (more t l (shown_counts q w.askable t l h));
      shown_told = λ q w. telling_again q w.askable;
      sound = λ q w s agrees t l h. agrees.told_true t l (shown_counts q w.askable t l h);
      later = λ q a w x untold t l soon. telling_later q a w.askable x.askable t l soon;
      not_fuller = λ q a w x untold h. telling_not_fuller q a w.askable x.askable h;
    }
