-- A reasoner that supposes a fluent both ways keeps the laws that the one below it keeps. Assumes nothing.
use Rattle.std.proofs.Common.{◌≡◌, ℕ, ◌+◌, ◌*◌, ◌<◌, ◌≤◌, Bool, true, false, cond, ◌&&◌, ◌||◌, eqb, ltb, List, length, sym, refl, ap, ◌∙◌, subst, ⊎_elim, arith}
use Rattle.std.proofs.lemmas.List.{length-set}
use Rattle.std.proofs.lemmas.Bool.{cases_Bool, and_parts, and_from, or_cases, or_left, or_right, or_from, eq-eqb, ne_eqb, eqb-true, ltb-true, lt-ltb, and_left}
use Rattle.literals.specs.Literals.{fluent, opposite}
use Rattle.literals.specs.Tables.{common, shows, told, is_full, full}
use Rattle.literals.proofs.Laws.{length-common, shows-common, common_sets, shows-told, told_sets, same_facts, is_full-shows, shows-is_full}
use Rattle.knowledge.specs.Questions.{Question, latest, in_reach, counts, true_at, Agrees, IsTable}
use Rattle.knowledge.specs.Reasoning.{Mind, Answerable, Laws, told_instead, one_more}
use Rattle.knowledge.specs.Supposing.{supposed, suppose_mind}
use Rattle.knowledge.specs.Worlds.{State, holds}
use Rattle.knowledge.proofs.States.{same_tests}
use Rattle.knowledge.proofs.Lawful.{fluents_few}
use Rattle.knowledge.proofs.Moving.{false_opposite}
use Rattle.knowledge.proofs.Reach.{reached}
use Rattle.knowledge.proofs.Sound.{after_none}

-- ---- what two tables have in common

pub common_table : (xs ys : List ℕ) → IsTable xs → IsTable ys → IsTable (common xs ys)
common_table xs ys one two =
    let long = one.long ∙ sym two.long in
    record { long = length-common xs ys long ∙ one.long; small = common_sets xs ys long one.small }

module _ (xs ys : List ℕ) (one : IsTable xs) (two : IsTable ys) where
  same_long : length xs ≡ length ys
  same_long = one.long ∙ sym two.long

  in_both : (t l : ℕ) → shows xs t l ≡ true → shows ys t l ≡ true → shows (common xs ys) t l ≡ true
  in_both t l h k = shows-common xs ys same_long t l ∙ and_from (shows xs t l) (shows ys t l) h k

  from_both : (t l : ℕ) → shows (common xs ys) t l ≡ true → (shows xs t l ≡ true) × (shows ys t l ≡ true)
  from_both t l h = and_parts (shows xs t l) (shows ys t l) (sym (shows-common xs ys same_long t l) ∙ h)

  -- it is full where both are
  both_full : (F last : ℕ) → is_full F last xs ≡ true → is_full F last ys ≡ true → is_full F last (common xs ys) ≡ true
  both_full F last h k =
      shows-is_full F last (common xs ys) (common_table xs ys one two).long
      (λ t l fact. in_both t l (is_full-shows F last xs one.long h t l fact) (is_full-shows F last ys two.long k t l fact))

  full_both : (F last : ℕ) → is_full F last (common xs ys) ≡ true → (is_full F last xs ≡ true) × (is_full F last ys ≡ true)
  full_both F last h =
      let shown : (t l : ℕ) → shows (full F last) t l ≡ true → shows (common xs ys) t l ≡ true = is_full-shows F last (common xs ys) (common_table xs ys one two).long h in
      (shows-is_full F last xs one.long (λ t l fact. (from_both t l (shown t l fact)).0), shows-is_full F last ys two.long (λ t l fact. (from_both t l (shown t l fact)).1))

-- ---- a question with a literal told at moment 0 as well

module _ (m : Mind) (q : Question) (w : Answerable m q) (l : ℕ) (known : fluent l < q.sheet.fluents) where
  few_literals : ltb l 64 ≡ true
  few_literals = lt-ltb l 64 (omega (arith, known, (fluents_few q.sheet w.askable.lawful_sheet).1))

  supposed-shows : (t k : ℕ) → shows (told q.told 0 l) t k ≡ (shows q.told t k || (eqb t 0 && eqb k l))
  supposed-shows t k =
      shows-told q.told 0 l t k (omega (arith, w.askable.table.long))
      ∙ ap (λ b. shows q.told t k || (eqb t 0 && (b && eqb k l))) few_literals

  supposed_asked : Answerable m (supposed q l)
  supposed_asked =
      record {
        askable = record {
          lawful_sheet = w.askable.lawful_sheet;
          few = w.askable.few;
          table = record { long = length-set q.told 0 _ ∙ w.askable.table.long; small = told_sets q.told 0 l w.askable.table.small };
        };
        within = w.within;
      }

  -- what counted counts, and so does the literal
  still_counts : (t k : ℕ) → counts q t k ≡ true → counts (supposed q l) t k ≡ true
  still_counts t k h =
      let parts = and_parts (shows q.told t k) (in_reach q t k) h in
      and_from (shows (told q.told 0 l) t k) (in_reach q t k) (supposed-shows t k ∙ or_left (shows q.told t k) (eqb t 0 && eqb k l) parts.0) parts.1

  itself_counts : counts (supposed q l) 0 l ≡ true
  itself_counts =
      and_from (shows (told q.told 0 l) 0 l) (in_reach q 0 l)
      (supposed-shows 0 l ∙ or_right (shows q.told 0 l) (eqb 0 0 && eqb l l) (and_from (eqb 0 0) (eqb l l) refl (eq-eqb l l refl)))
      (reached q 0 l (omega arith) known)

  -- and nothing else does
  by_counts : (P : ℕ → ℕ → Type 0) → ((t k : ℕ) → counts q t k ≡ true → P t k) → P 0 l → (t k : ℕ) → counts (supposed q l) t k ≡ true → P t k
  by_counts P before itself t k h =
      let parts = and_parts (shows (told q.told 0 l) t k) (in_reach q t k) h in
      ⊎_elim
      (λ (was : shows q.told t k ≡ true). before t k (and_from (shows q.told t k) (in_reach q t k) was parts.1))
      (λ (new : (eqb t 0 && eqb k l) ≡ true).
      let same = and_parts (eqb t 0) (eqb k l) new in
      rw (eqb-true t 0 same.0, eqb-true k l same.1) itself)
      (or_cases (shows q.told t k) (eqb t 0 && eqb k l) (sym (supposed-shows t k) ∙ parts.0))

  -- nothing is told later than before
  supposed_untold : ((t k : ℕ) → latest q < t → shows q.told t k ≡ false) → (t k : ℕ) → latest q < t → shows (told q.told 0 l) t k ≡ false
  supposed_untold untold t k late =
      supposed-shows t k ∙ or_from (shows q.told t k) (eqb t 0 && eqb k l) (untold t k late) (and_left (eqb t 0) (eqb k l) (ne_eqb t 0 (λ zero_is. omega (arith, late, zero_is))))

  -- a world in which the literal is true at moment 0 agrees with it as well
  supposed-agrees : (s : State) → Agrees q s → holds s l ≡ true → Agrees (supposed q l) s
  supposed-agrees s agrees h =
      record {
        world = agrees.world;
        told_true = by_counts (λ t k. true_at q s t k ≡ true) agrees.told_true (ap (λ w. holds w l) (after_none q.sheet q.orders s) ∙ h);
      }

-- ---- the laws for a question with a literal told as well

module _ (m : Mind) (laws : Laws m) (q : Question) (w : Answerable m q) (l : ℕ) (known : fluent l < q.sheet.fluents) where
  supposed_table : IsTable (m.meaning (supposed q l))
  supposed_table = laws.table (supposed q l) (supposed_asked m q w l known)

  supposed-told : (t k : ℕ) → counts q t k ≡ true → shows (m.meaning (supposed q l)) t k ≡ true
  supposed-told t k h = laws.told_shown (supposed q l) (supposed_asked m q w l known) t k (still_counts m q w l known t k h)

  supposed_more : (told : List ℕ) → Answerable m (told_instead q told) → ((t k : ℕ) → counts q t k ≡ true → counts (told_instead q told) t k ≡ true)
      → (t k : ℕ) → shows (m.meaning (supposed q l)) t k ≡ true → shows (m.meaning (supposed (told_instead q told) l)) t k ≡ true
  supposed_more facts x more =
      let p = told_instead q facts in
      laws.more_told (supposed q l) (told facts 0 l) (supposed_asked m q w l known) (supposed_asked m p x l known)
      (by_counts m q w l known (λ t k. counts (supposed p l) t k ≡ true) (λ t k h. still_counts m p x l known t k (more t k h)) (itself_counts m p x l known))

  -- told of facts that it shows, all that counted among them, it shows the same
  supposed_again : (sets : List ℕ) → IsTable sets → ((t k : ℕ) → counts q t k ≡ true → shows sets t k ≡ true)
      → ((t k : ℕ) → shows sets t k ≡ true → shows (m.meaning (supposed q l)) t k ≡ true)
      → m.meaning (supposed (told_instead q sets) l) ≡ m.meaning (supposed q l)
  supposed_again sets table all_told only =
      let shown = m.meaning (supposed q l) in
      let p = told_instead q sets in
      let here = supposed_asked m q w l known in
      let x : Answerable m (told_instead q sets) = record { askable = record { lawful_sheet = w.askable.lawful_sheet; few = w.askable.few; table = table }; within = w.within } in
      let there = supposed_asked m p x l known in
      let y : Answerable m (told_instead q (m.meaning (supposed q l))) = record { askable = record { lawful_sheet = w.askable.lawful_sheet; few = w.askable.few; table = supposed_table }; within = w.within } in
      let more : (t k : ℕ) → counts q t k ≡ true → counts (told_instead q sets) t k ≡ true = λ t k h.
      and_from (shows sets t k) (in_reach q t k) (all_told t k h) (and_parts (shows q.told t k) (in_reach q t k) h).1 in
      let in_shown : (t k : ℕ) → counts (supposed (told_instead q sets) l) t k ≡ true → counts (told_instead q (m.meaning (supposed q l))) t k ≡ true =
      by_counts m p x l known (λ t k. counts (told_instead q (m.meaning (supposed q l))) t k ≡ true)
      (λ t k h. let parts = and_parts (shows sets t k) (in_reach q t k) h in and_from (shows shown t k) (in_reach q t k) (only t k parts.0) parts.1)
      (and_from (shows shown 0 l) (in_reach q 0 l) (laws.told_shown (supposed q l) here 0 l (itself_counts m q w l known)) (reached q 0 l (omega arith) known)) in
      let made = laws.table (supposed p l) there in
      same_facts (m.meaning (supposed p l)) shown (made.long ∙ sym supposed_table.long) made.small supposed_table.small
      (λ t k.
      same_tests (shows (m.meaning (supposed p l)) t k) (shows shown t k)
      (λ h.
      subst (λ facts. shows facts t k ≡ true) (laws.shown_told (supposed q l) here)
      (laws.more_told (supposed p l) shown there y in_shown t k h))
      (supposed_more sets x more t k))

  module _ (a : ℕ) (x : Answerable m (one_more q a)) (untold : (t k : ℕ) → latest q < t → shows q.told t k ≡ false) where
    supposed_later : (t k : ℕ) → t ≤ latest q → shows (m.meaning (supposed (one_more q a) l)) t k ≡ shows (m.meaning (supposed q l)) t k
    supposed_later =
        laws.later (supposed q l) a (supposed_asked m q w l known) (supposed_asked m (one_more q a) x l known) (supposed_untold m q w l known untold)

    supposed-not_fuller : is_full q.sheet.fluents (latest (one_more q a)) (m.meaning (supposed (one_more q a) l)) ≡ true
        → is_full q.sheet.fluents (latest q) (m.meaning (supposed q l)) ≡ true
    supposed-not_fuller =
        laws.not_fuller (supposed q l) a (supposed_asked m q w l known) (supposed_asked m (one_more q a) x l known) (supposed_untold m q w l known untold)

-- ---- the laws for what is shown either way

-- what is shown either way where the fluent is the domain's, and what is shown below where it is not
abbrev shown_if : Mind → ℕ → Bool → Question → List ℕ
shown_if m f b q = cond b (common (m.meaning (supposed q (2 * f + 1))) (m.meaning (supposed q (2 * f)))) (m.meaning q)

by_known : (f F : ℕ) (P : Bool → Type 0) → (f < F → P true) → P false → P (ltb f F)
by_known f F P known outside =
    ⊎_elim
    (λ (h : ltb f F ≡ true). subst P (sym h) (known (ltb-true f F h)))
    (λ (h : ltb f F ≡ false). subst P (sym h) outside)
    (cases_Bool (ltb f F))

module _ (m : Mind) (laws : Laws m) (q : Question) (w : Answerable m q) (f : ℕ) (known : f < q.sheet.fluents) where
  on_known : fluent (2 * f + 1) < q.sheet.fluents
  on_known = omega (arith, known)

  off_known : fluent (2 * f) < q.sheet.fluents
  off_known = omega (arith, known)

  abbrev on : List ℕ
  on = m.meaning (supposed q (2 * f + 1))

  abbrev off : List ℕ
  off = m.meaning (supposed q (2 * f))

  on_table : IsTable on
  on_table = supposed_table m laws q w (2 * f + 1) on_known

  off_table : IsTable off
  off_table = supposed_table m laws q w (2 * f) off_known

  either_table : IsTable (common on off)
  either_table = common_table on off on_table off_table

  either_parts : (t l : ℕ) → shows (common on off) t l ≡ true → (shows on t l ≡ true) × (shows off t l ≡ true)
  either_parts = from_both on off on_table off_table

  either_reach : (t l : ℕ) → shows (common on off) t l ≡ true → in_reach q t l ≡ true
  either_reach t l h = laws.reach (supposed q (2 * f + 1)) (supposed_asked m q w (2 * f + 1) on_known) t l (either_parts t l h).0

  either_told : (t l : ℕ) → counts q t l ≡ true → shows (common on off) t l ≡ true
  either_told t l h =
      in_both on off on_table off_table t l (supposed-told m laws q w (2 * f + 1) on_known t l h) (supposed-told m laws q w (2 * f) off_known t l h)

  either_again : shown_if m f true (told_instead q (common on off)) ≡ common on off
  either_again =
      rw (
        supposed_again m laws q w (2 * f + 1) on_known (common on off) either_table either_told (λ t l h. (either_parts t l h).0),
        supposed_again m laws q w (2 * f) off_known (common on off) either_table either_told (λ t l h. (either_parts t l h).1),
      ) refl

  -- a world that agrees has the fluent true or false at moment 0, and agrees that way
  either_sound : (s : State) → Agrees q s → (t l : ℕ) → shows (common on off) t l ≡ true → true_at q s t l ≡ true
  either_sound s agrees t l h =
      let turned : opposite (2 * f + 1) ≡ 2 * f = omega arith in
      ⊎_elim
      (λ (yes : holds s (2 * f + 1) ≡ true).
      laws.sound (supposed q (2 * f + 1)) (supposed_asked m q w (2 * f + 1) on_known) s (supposed-agrees m q w (2 * f + 1) on_known s agrees yes) t l (either_parts t l h).0)
      (λ (no : holds s (2 * f + 1) ≡ false).
      laws.sound (supposed q (2 * f)) (supposed_asked m q w (2 * f) off_known) s
      (supposed-agrees m q w (2 * f) off_known s agrees (subst (λ k. holds s k ≡ true) turned (false_opposite s (2 * f + 1) no))) t l (either_parts t l h).1)
      (cases_Bool (holds s (2 * f + 1)))

module _ (m : Mind) (laws : Laws m) (q : Question) (w : Answerable m q) (f : ℕ) (known : f < q.sheet.fluents) where
  either_more : (told : List ℕ) → Answerable m (told_instead q told) → ((t l : ℕ) → counts q t l ≡ true → counts (told_instead q told) t l ≡ true)
      → (t l : ℕ) → shows (shown_if m f true q) t l ≡ true → shows (shown_if m f true (told_instead q told)) t l ≡ true
  either_more facts x more t l h =
      let p = told_instead q facts in
      let parts = either_parts m laws q w f known t l h in
      in_both (on m laws p x f known) (off m laws p x f known) (on_table m laws p x f known) (off_table m laws p x f known) t l
      (supposed_more m laws q w (2 * f + 1) (on_known m laws q w f known) facts x more t l parts.0)
      (supposed_more m laws q w (2 * f) (off_known m laws q w f known) facts x more t l parts.1)

  module _ (a : ℕ) (x : Answerable m (one_more q a)) (untold : (t l : ℕ) → latest q < t → shows q.told t l ≡ false) where
    abbrev p : Question
    p = one_more q a

    either_later : (t l : ℕ) → t ≤ latest q → shows (shown_if m f true (one_more q a)) t l ≡ shows (shown_if m f true q) t l
    either_later t l soon =
        shows-common (on m laws p x f known) (off m laws p x f known) (same_long _ _ (on_table m laws p x f known) (off_table m laws p x f known)) t l
        ∙ rw (supposed_later m laws q w (2 * f + 1) (on_known m laws q w f known) a x untold t l soon, supposed_later m laws q w (2 * f) (off_known m laws q w f known) a x untold t l soon)
        (sym (shows-common (on m laws q w f known) (off m laws q w f known) (same_long _ _ (on_table m laws q w f known) (off_table m laws q w f known)) t l))

    either_not_fuller : is_full q.sheet.fluents (latest (one_more q a)) (shown_if m f true (one_more q a)) ≡ true
        → is_full q.sheet.fluents (latest q) (shown_if m f true q) ≡ true
    either_not_fuller h =
        let F = q.sheet.fluents in
        let parts = full_both (on m laws p x f known) (off m laws p x f known) (on_table m laws p x f known) (off_table m laws p x f known) F (latest p) h in
        both_full (on m laws q w f known) (off m laws q w f known) (on_table m laws q w f known) (off_table m laws q w f known) F (latest q)
        (supposed-not_fuller m laws q w (2 * f + 1) (on_known m laws q w f known) a x untold parts.0)
        (supposed-not_fuller m laws q w (2 * f) (off_known m laws q w f known) a x untold parts.1)

-- supposing a fluent both ways keeps the laws
pub suppose_laws : (m : Mind) (f : ℕ) → Laws m → Laws (suppose_mind m f)
suppose_laws m f laws =
    record {
      table = λ q w. by_known f q.sheet.fluents (λ b. IsTable (shown_if m f b q)) (either_table m laws q (below q w) f) (laws.table q (below q w));
      reach = λ q w.
          by_known f q.sheet.fluents (λ b. (t l : ℕ) → shows (shown_if m f b q) t l ≡ true → in_reach q t l ≡ true)
          (either_reach m laws q (below q w) f) (laws.reach q (below q w));
      told_shown = λ q w.
          by_known f q.sheet.fluents (λ b. (t l : ℕ) → counts q t l ≡ true → shows (shown_if m f b q) t l ≡ true)
          (either_told m laws q (below q w) f) (laws.told_shown q (below q w));
      more_told = λ q facts w x more.
          by_known f q.sheet.fluents (λ b. (t l : ℕ) → shows (shown_if m f b q) t l ≡ true → shows (shown_if m f b (told_instead q facts)) t l ≡ true)
          (λ known. either_more m laws q (below q w) f known facts (below (told_instead q facts) x) more)
          (laws.more_told q facts (below q w) (below (told_instead q facts) x) more);
      shown_told = λ q w.
          by_known f q.sheet.fluents (λ b. shown_if m f b (told_instead q (shown_if m f b q)) ≡ shown_if m f b q)
          (either_again m laws q (below q w) f) (laws.shown_told q (below q w));
      sound = λ q w s agrees.
          by_known f q.sheet.fluents (λ b. (t l : ℕ) → shows (shown_if m f b q) t l ≡ true → true_at q s t l ≡ true)
          (λ known. either_sound m laws q (below q w) f known s agrees) (laws.sound q (below q w) s agrees);
      later = λ q a w x untold.
          by_known f q.sheet.fluents (λ b. (t l : ℕ) → t ≤ latest q → shows (shown_if m f b (one_more q a)) t l ≡ shows (shown_if m f b q) t l)
          (λ known. either_later m laws q (below q w) f known a (below (one_more q a) x) untold)
          (laws.later q a (below q w) (below (one_more q a) x) untold);
      not_fuller = λ q a w x untold.
          by_known f q.sheet.fluents
          (λ b. is_full q.sheet.fluents (latest (one_more q a)) (shown_if m f b (one_more q a)) ≡ true → is_full q.sheet.fluents (latest q) (shown_if m f b q) ≡ true)
          (λ known. either_not_fuller m laws q (below q w) f known a (below (one_more q a) x) untold)
          (laws.not_fuller q a (below q w) (below (one_more q a) x) untold);
    }
  where
    below : (q : Question) → Answerable (suppose_mind m f) q → Answerable m q
    below q w = record { askable = w.askable; within = w.within }
