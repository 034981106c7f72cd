-- Unions over the effects of an action, taken one after another. Assumes nothing.
use Rattle.std.proofs.Common.{◌≡◌, ℕ, ◌+◌, ◌^◌, ◌<◌, ◌≤◌, cond, List, [], ◌∷◌, length, get_or, drop, sym, refl, ap, ◌∙◌, arith}
use lib.Bits.{bit_or}
use Rattle.std.proofs.lemmas.List.{drop_more, drop_all}
use Rattle.std.proofs.lemmas.Bool.{cond_both}
use Rattle.literals.specs.Literals.{single, covers}
use Rattle.literals.proofs.Laws.{or_assoc, or-empty, or_none, or_below, single_below}
use Rattle.domain.specs.declared.action.Effect.{Effect}
use Rattle.knowledge.specs.AllWorlds.{firing}
use Rattle.knowledge.specs.Sweeps.{is_open, may_come, caused}

abbrev pub blank : Effect
blank = record { conditions = 0; literal = 0 }

-- the union of a set for each effect
pub record Union (each : Effect → ℕ) (union : List Effect → ℕ) : Type 0 where
  pub none : union [] ≡ 0
  pub more : (e : Effect) (es : List Effect) → union (e ∷ es) ≡ bit_or (each e) (union es)
  pub small : (e : Effect) → each e < 2 ^ 64

module _ {each : Effect → ℕ} {union : List Effect → ℕ} (u : Union each union) where
  union_below : (es : List Effect) → union es < 2 ^ 64
  union_below [] = rw u.none (omega arith)
  union_below (e ∷ es) = rw (u.more e es) (or_below (each e) (union es) (u.small e) (union_below es))

  pub union_first : (es : List Effect) → bit_or 0 (union es) ≡ union es
  union_first es = or_none (union es) (union_below es)

  module _ (es : List Effect) (i found whole : ℕ) (so_far : bit_or found (union (drop i es)) ≡ whole) (small : found < 2 ^ 64) where
    pub union_more : (next : ℕ) → i < length es → next ≡ each (get_or es i blank) → bit_or (bit_or found next) (union (drop (i + 1) es)) ≡ whole
    union_more next inside is =
        ap (λ x. bit_or (bit_or found x) (union (drop (i + 1) es))) is
        ∙ or_assoc found (each (get_or es i blank)) (union (drop (i + 1) es)) small (u.small (get_or es i blank)) (union_below (drop (i + 1) es))
        ∙ ap (bit_or found) (sym (u.more (get_or es i blank) (drop (i + 1) es))) ∙ ap (λ l. bit_or found (union l)) (sym (drop_more es i blank inside)) ∙ so_far

    pub union_done : length es ≤ i → found ≡ whole
    union_done all = sym (or-empty found small) ∙ ap (bit_or found) (sym u.none) ∙ ap (λ l. bit_or found (union l)) (sym (drop_all i es all)) ∙ so_far

-- the literals of the open effects, and of those that fire
pub coming_union : (facts : ℕ) → Union (λ e. cond (is_open facts e) (single e.literal) 0) (λ es. may_come es facts)
unfolding may_come
coming_union facts =
    record {
      none = refl;
      more = λ e es. refl;
      small = λ e. cond_both (is_open facts e) (single e.literal) 0 (λ x. x < 2 ^ 64) (λ _. single_below e.literal) (λ _. omega arith);
    }

pub firing_union : (state : ℕ) → Union (λ e. caused e state) (λ es. firing es state)
unfolding firing
firing_union state =
    record {
      none = refl;
      more = λ e es. refl;
      small = λ e. cond_both (covers state e.conditions) (single e.literal) 0 (λ x. x < 2 ^ 64) (λ _. single_below e.literal) (λ _. omega arith);
    }
