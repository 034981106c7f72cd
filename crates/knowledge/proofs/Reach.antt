-- What is shown and known is in reach. Assumes nothing.
use Rattle.std.proofs.Common.{◌≡◌, ℕ, suc, ◌<◌, ◌≤◌, true, ◌&&◌, ltb, leb, List, get_or, sym, ◌∙◌, arith}
use Rattle.std.proofs.lemmas.Bool.{and_parts, and_from, ltb-true, lt-ltb, leb-true, le-leb}
use Rattle.literals.specs.Literals.{fluent, opposite}
use Rattle.literals.specs.Tables.{shows, full, moments}
use Rattle.literals.proofs.Laws.{opposite-fluent, shows-full}
use Rattle.domain.specs.Sheet.{lawful}
use Rattle.knowledge.specs.Questions.{Question, latest, in_reach, Askable}
use Rattle.knowledge.specs.Rules.{Between, OneOf, effects_at, Closed, Known}
use Rattle.knowledge.specs.Worlds.{Among}
use Rattle.knowledge.proofs.Lawful.{exclusive, fluents_few, initial_known, groups_known}
use Rattle.knowledge.proofs.Least.{Least}

module _ (q : Question) (t l : ℕ) where
  pub reached : t ≤ latest q → fluent l < q.sheet.fluents → in_reach q t l ≡ true
  reached early known = and_from (leb t (latest q)) (ltb (fluent l) q.sheet.fluents) (le-leb t (latest q) early) (lt-ltb (fluent l) q.sheet.fluents known)

  pub reach_early : in_reach q t l ≡ true → t ≤ latest q
  reach_early h = leb-true t (latest q) (and_parts (leb t (latest q)) (ltb (fluent l) q.sheet.fluents) h).0

  pub reach_fluent : in_reach q t l ≡ true → fluent l < q.sheet.fluents
  reach_fluent h = ltb-true (fluent l) q.sheet.fluents (and_parts (leb t (latest q)) (ltb (fluent l) q.sheet.fluents) h).1

-- with a literal, its opposite is of the first fluents
pub opposite_known : (F l : ℕ) → fluent l < F → fluent (opposite l) < F
opposite_known F l h = omega (arith, h, opposite-fluent l)

-- ---- all that is in reach is closed

module _ (q : Question) (ok : lawful q.sheet ≡ true) where
  reach_between : (t : ℕ) → t < latest q
      → Between (effects_at q t) (λ l. in_reach q t l) (λ l. in_reach q (suc t) l) (λ l. in_reach q t l) (λ l. in_reach q (suc t) l)
  reach_between t inside =
      let F = q.sheet.fluents in
      let ex = exclusive q.sheet (get_or q.orders t 0) ok in
      let now : t ≤ latest q = omega (arith, inside) in
      let next : suc t ≤ latest q = omega (arith, inside) in
      record {
        forward = λ l h none. reached q (suc t) l next (reach_fluent q t l h);
        backward = λ l h none. reached q t l now (reach_fluent q (suc t) l h);
        cause = λ e among met. reached q (suc t) e.literal next (ex.literal_known e among);
        positive = λ e among h k c member. reached q t c now (ex.conditions_known e c among member);
        negative = λ e among h c member others. reached q t (opposite c) now (opposite_known F c (ex.conditions_known e c among member));
      }

  reach_one_of : (g : ℕ) → Among g q.sheet.groups → OneOf g (λ l. in_reach q 0 l) (λ l. in_reach q 0 l)
  reach_one_of g among =
      let F = q.sheet.fluents in
      record {
        others = λ l m in_l in_m differs h. reached q 0 (opposite m) (omega arith) (opposite_known F m (groups_known q.sheet ok g m among in_m));
        left_over = λ m in_m others. reached q 0 m (omega arith) (groups_known q.sheet ok g m among in_m);
      }

  pub reach_closed : Closed q (λ t l. in_reach q t l)
  reach_closed =
      record {
        initially = λ l member. reached q 0 l (omega arith) (initial_known q.sheet ok l member);
        as_told = λ t l h. (and_parts (shows q.told t l) (in_reach q t l) h).1;
        one_of = reach_one_of;
        between = reach_between;
      }

  -- a least table shows nothing out of reach
  pub least_reach : (sets : List ℕ) → Least q sets → (t l : ℕ) → shows sets t l ≡ true → in_reach q t l ≡ true
  least_reach sets r t l h = r.least (λ u m. in_reach q u m) reach_closed t l h

-- ---- a least table shows just what is known

module _ (q : Question) (sets : List ℕ) (r : Least q sets) (t l : ℕ) where
  pub shown_is_known : shows sets t l ≡ true → Known q t l
  shown_is_known h facts closed = r.least facts closed t l h

  pub known_is_shown : Known q t l → shows sets t l ≡ true
  known_is_shown known = known (λ u m. shows sets u m) r.closed

-- ---- the full table shows just what is in reach

module _ (q : Question) (asked : Askable q) (t l : ℕ) where
  pub reach_full : in_reach q t l ≡ true → shows (full q.sheet.fluents (latest q)) t l ≡ true
  reach_full h =
      let F = q.sheet.fluents in
      let n = moments (latest q) in
      let early = reach_early q t l h in
      let known = reach_fluent q t l h in
      let few = (fluents_few q.sheet asked.lawful_sheet).1 in
      shows-full F (latest q) t l
      ∙ and_from (ltb t n) _ (lt-ltb t n (omega (arith, early, asked.few)))
      (and_from (ltb l 64) (ltb (fluent l) F) (lt-ltb l 64 (omega (arith, known, few))) (lt-ltb (fluent l) F known))

  pub full_reach : shows (full q.sheet.fluents (latest q)) t l ≡ true → in_reach q t l ≡ true
  full_reach h =
      let F = q.sheet.fluents in
      let n = moments (latest q) in
      let parts = and_parts (ltb t n) (ltb l 64 && ltb (fluent l) F) (sym (shows-full F (latest q) t l) ∙ h) in
      let early : t < n = ltb-true t n parts.0 in
      reached q t l (omega (arith, early)) (ltb-true (fluent l) F (and_parts (ltb l 64) (ltb (fluent l) F) parts.1).1)
