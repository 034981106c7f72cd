-- Lists joined from the parts of other lists, and how long they are. Assumes nothing.
use Rattle.std.proofs.Common.{◌≡◌, ℕ, ◌+◌, ◌<◌, ◌≤◌, List, [], ◌∷◌, ◌++◌, map, length, get_or, take, drop, sym, refl, ap, ◌∙◌, append_assoc, append-nil, length-append, take-append-drop}
use Rattle.std.proofs.lemmas.List.{take_more, drop_more, take_all}
use Rattle.std.specs.List.{flat_map}

module _ {X A : Type 0} (f : X → List A) where
  pub joined-append : (xs ys : List X) → flat_map f (xs ++ ys) ≡ flat_map f xs ++ flat_map f ys
  joined-append [] ys = refl
  joined-append (x ∷ xs) ys = ap (λ l. f x ++ l) (joined-append xs ys) ∙ sym (append_assoc (f x) (flat_map f xs) (flat_map f ys))

  -- one part more
  pub joined-take : (xs : List X) (i : ℕ) (d : X) → i < length xs → flat_map f (take i xs) ++ f (get_or xs i d) ≡ flat_map f (take (i + 1) xs)
  joined-take xs i d h =
      sym (ap (flat_map f) (take_more xs i d h) ∙ joined-append (take i xs) (get_or xs i d ∷ []) ∙ ap (λ l. flat_map f (take i xs) ++ l) (append-nil (f (get_or xs i d))))

  -- how long the parts are with one more, and with all
  pub length_more : (xs : List X) (i : ℕ) (d : X) (n m : ℕ) → i < length xs → n ≡ length (flat_map f (take i xs)) → m ≡ length (f (get_or xs i d)) → n + m ≡ length (flat_map f (take (i + 1) xs))
  length_more xs i d n m inside so_far more =
      ap (λ k. k + m) so_far ∙ ap (λ k. length (flat_map f (take i xs)) + k) more ∙ sym (length-append (flat_map f (take i xs)) (f (get_or xs i d))) ∙ ap length (joined-take xs i d inside)

  pub length-all : (xs : List X) (i n : ℕ) → length xs ≤ i → n ≡ length (flat_map f (take i xs)) → n ≡ length (flat_map f xs)
  length-all xs i n all so_far = so_far ∙ ap (λ l. length (flat_map f l)) (take_all i xs all)

  -- the parts before one, that one, and those after it
  pub joined_split : (xs : List X) (i : ℕ) (d : X) → i < length xs → flat_map f (take i xs) ++ (f (get_or xs i d) ++ flat_map f (drop (i + 1) xs)) ≡ flat_map f xs
  joined_split xs i d h =
      sym (joined-append (take i xs) (get_or xs i d ∷ drop (i + 1) xs)) ∙ ap (flat_map f) (ap (λ l. take i xs ++ l) (sym (drop_more xs i d h)) ∙ take-append-drop i xs)

-- the parts of a list that is made of another
pub joined-map : {X Y A : Type 0} (f : Y → List A) (g : X → Y) (xs : List X) → flat_map (λ x. f (g x)) xs ≡ flat_map f (map g xs)
joined-map f g [] = refl
joined-map f g (x ∷ xs) = ap (λ l. f (g x) ++ l) (joined-map f g xs)
