-- One turn of a loop that reads items one after another. Assumes nothing.
use Rattle.std.proofs.Common.{◌≡◌, ℕ, suc, ◌+◌, ◌-◌, ◌<◌, ◌≤◌, Bool, List, [], ◌∷◌, ◌++◌, Ok, Err, Result, sym, refl, ap, ◌∙◌, subst, append_assoc, append-nil, arith, Bor}
use Rattle.bits.specs.Bits.{bits_of}
use Rattle.bits.specs.Fields.{followed}
use Rattle.domain.specs.Layout.{and_item, effect_at, effects_at, groups_at, action_at, actions_at}
use Rattle.domain.specs.Lists.{list_at}
use Rattle.domain.specs.Rows.{before}
use Rattle.domain.specs.declared.refusal.Refusal.{Refusal}

module _ {X : Type 0} (xs : List X) (rest : X → ℕ → Result (List X × ℕ) Refusal) where
  then_item : (x : X) (r : Result (List X × ℕ) Refusal) → before xs (followed r (and_item x)) ≡ before (xs ++ x ∷ []) r
  then_item x (Ok y) = ap (λ l. Ok (l, y.1)) (sym (append_assoc xs (x ∷ []) y.0))
  then_item x (Err e) = refl

  pub item_read : {r : Result (X × ℕ) Refusal} {x : X} {q : ℕ} → r ≡ Ok (x, q) → before xs (followed r (λ x q. followed (rest x q) (and_item x))) ≡ before (xs ++ x ∷ []) (rest x q)
  item_read {x = x} {q = q} h = ap (λ r. before xs (followed r (λ x q. followed (rest x q) (and_item x)))) h ∙ then_item x (rest x q)

  pub item_refused : {r : Result (X × ℕ) Refusal} {e : Refusal} → r ≡ Err e → before xs (followed r (λ x q. followed (rest x q) (and_item x))) ≡ Err e
  item_refused h = ap (λ r. before xs (followed r (λ x q. followed (rest x q) (and_item x)))) h

-- before anything was read
pub none_before : {X E : Type 0} (r : Result (List X × ℕ) E) → before [] r ≡ r
none_before (Ok y) = refl
none_before (Err e) = refl

-- what is left after n of n items
pub done_before : {X E : Type 0} (xs : List X) (p : ℕ) → before {E = E} xs (Ok ([], p)) ≡ Ok (xs, p)
done_before xs p = ap (λ l. Ok (l, p)) (append-nil xs)

-- n items read one after another; what is asked of an item may depend on those before it
pub record Items {X S : Type 0} (all : ℕ → S → ℕ → Result (List X × ℕ) Refusal) (item : S → ℕ → Result (X × ℕ) Refusal) (next : S → X → S) : Type 0 where
  pub none : (s : S) (p : ℕ) → all 0 s p ≡ Ok ([], p)
  pub more : (n : ℕ) (s : S) (p : ℕ) → all (suc n) s p ≡ followed (item s p) (λ x q. followed (all n (next s x) q) (and_item x))

pub effect_items : (bits : List Bool) (F : ℕ) → Items (λ n least p. effects_at n bits F least p) (λ least p. effect_at bits F least p) (λ _ e. e.literal + 1)
unfolding effects_at
effect_items bits F = record { none = λ s p. refl; more = λ n s p. refl }

pub group_items : (bits : List Bool) (F : ℕ) → Items {S = Unit {0}} (λ n _ p. groups_at n bits F p) (λ _ p. list_at bits F 4 2 8 p) (λ s _. s)
unfolding groups_at
group_items bits F = record { none = λ s p. refl; more = λ n s p. refl }

pub action_items : (bits : List Bool) (F : ℕ) → Items (λ n a p. actions_at n bits F a p) (λ a p. action_at bits F a p) (λ a _. a + 1)
unfolding actions_at
action_items bits F = record { none = λ s p. refl; more = λ n s p. refl }

module _ {X S : Type 0} {all : ℕ → S → ℕ → Result (List X × ℕ) Refusal} {item : S → ℕ → Result (X × ℕ) Refusal} {next : S → X → S} (items : Items all item next)
    (n i : ℕ) (whole : Result (List X × ℕ) Refusal) (xs : List X) (s : S) (p : ℕ) (so_far : before xs (all (n - i) s p) ≡ whole) where
  one_less : i < n → before xs (followed (item s p) (λ x q. followed (all (n - (i + 1)) (next s x) q) (and_item x))) ≡ whole
  one_less inside =
      let left : n - i ≡ suc (n - (i + 1)) = omega arith in
      ap (before xs) (sym (ap (λ k. all k s p) left ∙ items.more (n - (i + 1)) s p)) ∙ so_far

  pub items_more : (x : X) (q : ℕ) → i < n → item s p ≡ Ok (x, q) → before (xs ++ x ∷ []) (all (n - (i + 1)) (next s x) q) ≡ whole
  items_more x q inside read = sym (item_read xs (λ x q. all (n - (i + 1)) (next s x) q) read) ∙ one_less inside

  pub items_stop : (e : Refusal) → i < n → item s p ≡ Err e → Err e ≡ whole
  items_stop e inside read = sym (item_refused xs (λ x q. all (n - (i + 1)) (next s x) q) read) ∙ one_less inside

  pub items_done : n ≤ i → Ok (xs, p) ≡ whole
  items_done done =
      let left : n - i ≡ 0 = omega arith in
      sym (done_before xs p) ∙ ap (before xs) (sym (ap (λ k. all k s p) left ∙ items.none s p)) ∙ so_far

-- an item read from the same bytes
pub read_here : {X : Type 0} {r : Result (X × ℕ) Refusal} {b b' : Bor (List ℕ)} (item : List Bool → Result (X × ℕ) Refusal) → r ≡ item (bits_of b.now) → b ≡ b' → item (bits_of b'.now) ≡ r
read_here {r = r} item h b = sym (subst (λ x. r ≡ item (bits_of x.now)) b h)
