-- The exclusion test: an effect against the earlier ones, and one turn of the loop over the effects. Assumes nothing.
use Rattle.std.proofs.Common.{◌≡◌, ℕ, ◌+◌, ◌<◌, ◌≤◌, Bool, true, false, cond, not, ◌&&◌, ◌||◌, List, [], ◌∷◌, ◌++◌, length, get_or, take, drop, Some, None, Option, sym, refl, ap, ◌∙◌}
use Rattle.std.proofs.lemmas.List.{take_more, drop_more, drop_all}
use Rattle.std.specs.List.{list_any}
use Rattle.domain.specs.Layout.{effect_bits, clash_place}
use Rattle.domain.specs.Sheet.{clash, clashes, clash_free}
use Rattle.domain.specs.declared.action.Effect.{Effect}

abbrev pub blank : Effect
blank = record { conditions = 0; literal = 0 }

-- an effect against the earlier ones, in the library's words
pub list_any-clash : (e : Effect) (earlier : List Effect) → list_any (clash e) earlier ≡ clashes e earlier
list_any-clash e [] = refl
list_any-clash e (f ∷ fs) = ap (λ b. clash e f || b) (list_any-clash e fs)

-- the first clash from an effect on, if any
abbrev pub first_from : List Effect → ℕ → List Effect → Option ℕ
first_from earlier p es = cond (clash_free earlier es) None (Some (clash_place earlier p es))

here : (b : Bool) (free : Bool) (p q : ℕ) → cond (not b && free) None (Some (cond b p q)) ≡ cond b (Some p) (cond free None (Some q))
here true free p q = refl
here false free p q = refl

step : (earlier : List Effect) (p : ℕ) (e : Effect) (es : List Effect) → first_from earlier p (e ∷ es) ≡ cond (clashes e earlier) (Some p) (first_from (earlier ++ e ∷ []) (p + length (effect_bits e)) es)
unfolding clash_free clash_place
step earlier p e es = here (clashes e earlier) (clash_free (earlier ++ e ∷ []) es) p (clash_place (earlier ++ e ∷ []) (p + length (effect_bits e)) es)

module _ (es : List Effect) (i place : ℕ) (whole : Option ℕ) (so_far : first_from (take i es) place (drop i es) ≡ whole) where
  pub first_here : i < length es → true ≡ clashes (get_or es i blank) (take i es) → Some place ≡ whole
  first_here inside found =
      ap (λ b. cond b (Some place) (first_from (take i es ++ get_or es i blank ∷ []) (place + length (effect_bits (get_or es i blank))) (drop (i + 1) es))) found
      ∙ sym (step (take i es) place (get_or es i blank) (drop (i + 1) es)) ∙ ap (first_from (take i es) place) (sym (drop_more es i blank inside)) ∙ so_far

  pub first_later : (len : ℕ) → i < length es → false ≡ clashes (get_or es i blank) (take i es) → len ≡ length (effect_bits (get_or es i blank)) → first_from (take (i + 1) es) (place + len) (drop (i + 1) es) ≡ whole
  first_later len inside none long =
      let next = get_or es i blank in
      ap (λ l. first_from l (place + len) (drop (i + 1) es)) (take_more es i blank inside)
      ∙ ap (λ k. first_from (take i es ++ next ∷ []) (place + k) (drop (i + 1) es)) long
      ∙ ap (λ b. cond b (Some place) (first_from (take i es ++ next ∷ []) (place + length (effect_bits next)) (drop (i + 1) es))) none
      ∙ sym (step (take i es) place next (drop (i + 1) es)) ∙ ap (first_from (take i es) place) (sym (drop_more es i blank inside)) ∙ so_far

  pub first_never : length es ≤ i → None ≡ whole
  unfolding clash_free
  first_never all = ap (first_from (take i es) place) (sym (drop_all i es all)) ∙ so_far
