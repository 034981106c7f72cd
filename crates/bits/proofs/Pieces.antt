-- Pieces of a layout: what is printed is read back at any place, and whatever is read was printed so. Assumes nothing.
use Rattle.std.proofs.Common.{◌≡◌, ℕ, ◌+◌, ◌^◌, ◌<◌, ◌≤◌, Bool, true, false, cond, List, [], ◌∷◌, ◌++◌, length, Ok, Err, Result, sym, refl, ap, ◌∙◌, subst, subst₂, add-zero, arith, length-append}
use Rattle.std.specs.List.{flat_map as joined}
use Rattle.bits.specs.Bits.{numeral}
use Rattle.bits.specs.Fields.{field, followed, after, refused_as}
use Rattle.bits.specs.declared.refusal.Refusal.{Refusal}
use Rattle.bits.proofs.Numbers.{length-numeral}
use Rattle.bits.proofs.Standing.{Stands, stands_none, stands_split, stands_join, field_reads, field_stands}

-- a refusal is no answer
pub err_not_ok : {A E : Type 0} (e : E) (y : A) → Err e ≡ Ok y → ⊥
err_not_ok e y h = let z : ◌≡◌ {A = ℕ} 0 1 = cc in omega arith

pub same_answer : {A E : Type 0} {x y : A} → ◌≡◌ {A = Result A E} (Ok x) (Ok y) → x ≡ y
same_answer h = cc

-- both of two reads were accepted
pub both_read : {A B E : Type 0} (r : Result (A × ℕ) E) (k : A → ℕ → Result B E) (y : B) → followed r k ≡ Ok y → (x : A) × (q : ℕ) × (r ≡ Ok (x, q)) × (k x q ≡ Ok y)
both_read (Ok x) k y h = (x.0, x.1, refl, h)
both_read (Err e) k y h = absurd (err_not_ok e y h)

pub test_passed : {A B E : Type 0} (r : Result A E) (x : Result B E) (y : B) → after r x ≡ Ok y → (v : A) × (r ≡ Ok v) × (x ≡ Ok y)
test_passed (Ok v) x y h = (v, refl, h)
test_passed (Err e) x y h = absurd (err_not_ok e y h)

pub lifted_read : {A E F : Type 0} (f : F → E) (r : Result A F) (x : A) → refused_as f r ≡ Ok x → r ≡ Ok x
lifted_read f (Ok v) x h = cc
lifted_read f (Err e) x h = absurd (err_not_ok (f e) x h)

-- a test that refuses did not
pub not_refused : {A E : Type 0} (b : Bool) (e : E) (x : Result A E) (y : A) → cond b (Err e) x ≡ Ok y → (b ≡ false) × (x ≡ Ok y)
not_refused true e x y h = absurd (err_not_ok e y h)
not_refused false e x y h = (refl, h)

-- a test that answers did
pub test_answered : {A E : Type 0} (b : Bool) (x : Result A E) (e : E) (y : A) → cond b x (Err e) ≡ Ok y → (b ≡ true) × (x ≡ Ok y)
test_answered true x e y h = (refl, h)
test_answered false x e y h = absurd (err_not_ok e y h)

-- a piece of a layout: how it is read at a place, how it is printed, and what is asked of it
pub record Piece {A E : Type 0} (read : List Bool → ℕ → Result (A × ℕ) E) (print : A → List Bool) (Lawful : A → Type 0) : Type 0 where
  pub reads : (bits : List Bool) (p : ℕ) (x : A) → Lawful x → Stands bits p (print x) → read bits p ≡ Ok (x, p + length (print x))
  pub stands : (bits : List Bool) (p : ℕ) (x : A) (q : ℕ) → p ≤ length bits → read bits p ≡ Ok (x, q) → Lawful x × Stands bits p (print x) × (q ≡ p + length (print x))

-- a field, with its refusals among those of a layout
pub field_piece : {E : Type 0} (f : Refusal → E) (w : ℕ) → Piece (λ bits p. refused_as f (field bits p w)) (numeral w) (λ n. n < 2 ^ w)
field_piece f w =
    record {
      reads = λ bits p n small h. ap (refused_as f) (field_reads bits p w n small h) ∙ ap (λ k. Ok (n, p + k)) (sym (length-numeral w n));
      stands = λ bits p n q inside h. let told = field_stands bits p w n q (lifted_read f (field bits p w) (n, q) h) in (told.2, told.1, told.0 ∙ ap (λ k. p + k) (sym (length-numeral w n)));
    }

-- a read with a test of what was read; a refusal may name the place
abbrev pub tested : {A E : Type 0} → (List Bool → ℕ → Result (A × ℕ) E) → (A → Bool) → (ℕ → A → E) → List Bool → ℕ → Result (A × ℕ) E
tested {A} read test refusal bits p = followed {B = A × ℕ} (read bits p) (λ x q. cond (test x) (Ok (x, q)) (Err (refusal p x)))

pub tested_piece : {A E : Type 0} {read : List Bool → ℕ → Result (A × ℕ) E} {print : A → List Bool} {Lawful : A → Type 0} (test : A → Bool) (refusal : ℕ → A → E)
    → Piece read print Lawful → Piece (tested read test refusal) print (λ x. Lawful x × (test x ≡ true))
tested_piece {A} {E} {read} {print} {Lawful} test refusal piece = record { reads = reads; stands = stands }
  where
    last : ℕ → A → ℕ → Result (A × ℕ) E
    last p x q = cond (test x) (Ok (x, q)) (Err (refusal p x))

    reads : (bits : List Bool) (p : ℕ) (x : A) → Lawful x × (test x ≡ true) → Stands bits p (print x) → tested read test refusal bits p ≡ Ok (x, p + length (print x))
    reads bits p x lawful h =
        ap (λ r. followed r (last p)) (piece.reads bits p x lawful.0 h)
        ∙ ap (λ b. cond b (Ok (x, p + length (print x))) (Err (refusal p x))) lawful.1

    All : List Bool → ℕ → A × ℕ → Type 0
    All bits p y = (Lawful y.0 × (test y.0 ≡ true)) × Stands bits p (print y.0) × (y.1 ≡ p + length (print y.0))

    stands : (bits : List Bool) (p : ℕ) (x : A) (q : ℕ) → p ≤ length bits → tested read test refusal bits p ≡ Ok (x, q) → (Lawful x × (test x ≡ true)) × Stands bits p (print x) × (q ≡ p + length (print x))
    stands bits p x q inside h =
        let first = both_read (read bits p) (last p) (x, q) h in
        let answered = test_answered (test first.0) (Ok (first.0, first.1)) (refusal p first.0) (x, q) first.3 in
        let told = piece.stands bits p first.0 first.1 inside first.2 in
        subst (All bits p) (same_answer answered.1) ((told.0, answered.0), told.1, told.2)

-- one read after another, which may depend on what was read first, and what is made of both
abbrev pub chained : {A B C E : Type 0} → (List Bool → ℕ → Result (A × ℕ) E) → (A → List Bool → ℕ → Result (B × ℕ) E) → (A → B → C) → List Bool → ℕ → Result (C × ℕ) E
chained {A} {B} {C} read next make bits p = followed {B = C × ℕ} (read bits p) (λ x q. followed {B = C × ℕ} (next x bits q) (λ y r. Ok (make x y, r)))

-- the same piece, asking the same in other words
pub piece_by : {A E : Type 0} {read : List Bool → ℕ → Result (A × ℕ) E} {print : A → List Bool} {Lawful Also : A → Type 0} → ((x : A) → Lawful x → Also x) → ((x : A) → Also x → Lawful x) → Piece read print Lawful → Piece read print Also
piece_by forth back piece =
    record {
      reads = λ bits p x also h. piece.reads bits p x (back x also) h;
      stands = λ bits p x q inside h. let told = piece.stands bits p x q inside h in (forth x told.0, told.1, told.2);
    }

-- what is made of both says again what was read
pub piece_made : {A B C E : Type 0} {read : List Bool → ℕ → Result (A × ℕ) E} {next : A → List Bool → ℕ → Result (B × ℕ) E} {print : A → List Bool} {print_next : A → B → List Bool} {Lawful : A → Type 0} {Lawful_next : A → B → Type 0}
    (make : A → B → C) (first : C → A) (second : C → B) → ((x : A) (y : B) → Lawful x → Lawful_next x y → first (make x y) ≡ x) → ((x : A) (y : B) → Lawful x → Lawful_next x y → second (make x y) ≡ y)
    → Piece read print Lawful → ((x : A) → Lawful x → Piece (next x) (print_next x) (Lawful_next x))
    → Piece (chained read next make) (λ c. print (first c) ++ print_next (first c) (second c)) (λ c. (make (first c) (second c) ≡ c) × (Lawful (first c) × Lawful_next (first c) (second c)))
piece_made {A} {B} {C} {E} {read} {next} {print} {print_next} {Lawful} {Lawful_next} make first second is-first is-second one two = record { reads = reads; stands = stands }
  where
    made : A → B → ℕ → Result (C × ℕ) E
    made x y r = Ok (make x y, r)

    rest : List Bool → A → ℕ → Result (C × ℕ) E
    rest bits x q = followed (next x bits q) (made x)

    both : A → B → List Bool
    both a b = print a ++ print_next a b

    Asked : C → Type 0
    Asked c = (make (first c) (second c) ≡ c) × (Lawful (first c) × Lawful_next (first c) (second c))

    reads : (bits : List Bool) (p : ℕ) (c : C) → Asked c → Stands bits p (both (first c) (second c)) → chained read next make bits p ≡ Ok (c, p + length (both (first c) (second c)))
    reads bits p c lawful h =
        let x = first c in
        let y = second c in
        let parts = stands_split bits p (print x) (print_next x y) h in
        let long : p + length (print x) + length (print_next x y) ≡ p + length (print x ++ print_next x y) = simp length-append (omega arith) in
        ap (λ r. followed r (rest bits)) (one.reads bits p x lawful.1.0 parts.0)
        ∙ ap (λ r. followed r (made x)) ((two x lawful.1.0).reads bits (p + length (print x)) y lawful.1.1 parts.1)
        ∙ ap (λ z. Ok (z, p + length (print x) + length (print_next x y))) lawful.0
        ∙ ap (λ k. Ok (c, k)) long

    All : List Bool → ℕ → C → A → B → ℕ → Type 0
    All bits p c a b q = ((make a b ≡ c) × (Lawful a × Lawful_next a b)) × Stands bits p (both a b) × (q ≡ p + length (both a b))

    stands : (bits : List Bool) (p : ℕ) (c : C) (q : ℕ) → p ≤ length bits → chained read next make bits p ≡ Ok (c, q) → All bits p c (first c) (second c) q
    stands bits p c q inside h =
        let one_read = both_read (read bits p) (rest bits) (c, q) h in
        let x = one_read.0 in
        let two_read = both_read (next x bits one_read.1) (made x) (c, q) one_read.3 in
        let y = two_read.0 in
        let here = one.stands bits p x one_read.1 inside one_read.2 in
        let there = (two x here.0).stands bits one_read.1 y two_read.1 (omega (arith, here.1.fits, here.2)) two_read.2 in
        let joined = stands_join bits p (print x) (print_next x y) here.1 (subst (λ k. Stands bits k (print_next x y)) here.2 there.1) in
        let long : two_read.1 ≡ p + length (print x ++ print_next x y) = there.2 ∙ ap (λ k. k + length (print_next x y)) here.2 ∙ simp length-append (omega arith) in
        subst (λ z. All bits p z.0 (first z.0) (second z.0) z.1) (same_answer two_read.3)
        (subst₂ (λ a b. All bits p (make x y) a b two_read.1) (sym (is-first x y here.0 there.0)) (sym (is-second x y here.0 there.0)) ((refl, (here.0, there.0)), joined, long))

-- the same, where nothing is lost in the making
pub piece_then : {A B C E : Type 0} {read : List Bool → ℕ → Result (A × ℕ) E} {next : A → List Bool → ℕ → Result (B × ℕ) E} {print : A → List Bool} {print_next : A → B → List Bool} {Lawful : A → Type 0} {Lawful_next : A → B → Type 0}
    (make : A → B → C) (first : C → A) (second : C → B) → ((c : C) → make (first c) (second c) ≡ c) → ((x : A) (y : B) → first (make x y) ≡ x) → ((x : A) (y : B) → second (make x y) ≡ y)
    → Piece read print Lawful → ((x : A) → Lawful x → Piece (next x) (print_next x) (Lawful_next x))
    → Piece (chained read next make) (λ c. print (first c) ++ print_next (first c) (second c)) (λ c. Lawful (first c) × Lawful_next (first c) (second c))
piece_then make first second whole is-first is-second one two =
    piece_by (λ c h. h.1) (λ c h. (whole c, h)) (piece_made make first second (λ x y _ _. is-first x y) (λ x y _ _. is-second x y) one two)

-- what is asked of a list, by what is asked of its first item and of the rest
abbrev pub FirstAndRest : {A : Type 0} → (A → Type 0) → (A → List A → Type 0) → List A → Type 0
FirstAndRest Lawful Rest [] = ⊥
FirstAndRest Lawful Rest (x ∷ xs) = Lawful x × Rest x xs

-- no items
pub none_piece : {A E : Type 0} (print : A → List Bool) → Piece {A = List A} {E = E} (λ bits p. Ok ([], p)) (joined print) (λ xs. xs ≡ [])
none_piece {A} {E} print =
    record {
      reads = λ bits p xs none h. rw none (ap (λ k. Ok ([], k)) (sym (add-zero p)));
      stands = λ bits p xs q inside h. subst (Nothing bits p) (same_answer h) (refl, stands_none bits p inside, sym (add-zero p));
    }
  where
    Nothing : List Bool → ℕ → List A × ℕ → Type 0
    Nothing bits p y = (y.0 ≡ []) × Stands bits p (joined print y.0) × (y.1 ≡ p + length (joined print y.0))

-- one item, and the items after it
pub cons_piece : {A E : Type 0} {read : List Bool → ℕ → Result (A × ℕ) E} {rest : A → List Bool → ℕ → Result (List A × ℕ) E} {print : A → List Bool} {Lawful : A → Type 0} {Rest : A → List A → Type 0}
    → Piece read print Lawful → ((x : A) → Lawful x → Piece (rest x) (joined print) (Rest x)) → Piece (chained read rest (λ x xs. x ∷ xs)) (joined print) (FirstAndRest Lawful Rest)
cons_piece {A} {E} {read} {rest} {print} {Lawful} {Rest} one more = record { reads = reads; stands = stands }
  where
    pair : A → List A → A × List A
    pair x xs = (x, xs)

    pairs : Piece (chained read rest pair) (λ c. print c.0 ++ joined print c.1) (λ c. Lawful c.0 × Rest c.0 c.1)
    pairs = piece_then pair (λ c. c.0) (λ c. c.1) (λ c. refl) (λ x y. refl) (λ x y. refl) one more

    after_pair : (A × List A) × ℕ → Result (List A × ℕ) E
    after_pair y = Ok (y.0.0 ∷ y.0.1, y.1)

    by_pair : Result ((A × List A) × ℕ) E → Result (List A × ℕ) E
    by_pair (Ok y) = after_pair y
    by_pair (Err e) = Err e

    same_rest : (x : A) (r : Result (List A × ℕ) E) → followed r (λ xs q. Ok (x ∷ xs, q)) ≡ by_pair (followed r (λ xs q. Ok (pair x xs, q)))
    same_rest x (Ok y) = refl
    same_rest x (Err e) = refl

    same_read : (bits : List Bool) (r : Result (A × ℕ) E) → followed r (λ x q. followed (rest x bits q) (λ xs r. Ok (x ∷ xs, r))) ≡ by_pair (followed r (λ x q. followed (rest x bits q) (λ xs r. Ok (pair x xs, r))))
    same_read bits (Ok y) = same_rest y.0 (rest y.0 bits y.1)
    same_read bits (Err e) = refl

    reads : (bits : List Bool) (p : ℕ) (xs : List A) → FirstAndRest Lawful Rest xs → Stands bits p (joined print xs) → chained read rest (λ x xs. x ∷ xs) bits p ≡ Ok (xs, p + length (joined print xs))
    reads bits p [] lawful h = absurd lawful
    reads bits p (x ∷ xs) lawful h = same_read bits (read bits p) ∙ ap by_pair (pairs.reads bits p (x, xs) lawful h)

    All : List Bool → ℕ → List A × ℕ → Type 0
    All bits p y = FirstAndRest Lawful Rest y.0 × Stands bits p (joined print y.0) × (y.1 ≡ p + length (joined print y.0))

    from_pair : (bits : List Bool) (p : ℕ) → p ≤ length bits → (r : Result ((A × List A) × ℕ) E) → chained read rest pair bits p ≡ r → (xs : List A) (q : ℕ) → by_pair r ≡ Ok (xs, q) → All bits p (xs, q)
    from_pair bits p inside (Ok y) e xs q h = subst (All bits p) (same_answer h) (pairs.stands bits p y.0 y.1 inside e)
    from_pair bits p inside (Err e') e xs q h = absurd (err_not_ok e' (xs, q) h)

    stands : (bits : List Bool) (p : ℕ) (xs : List A) (q : ℕ) → p ≤ length bits → chained read rest (λ x xs. x ∷ xs) bits p ≡ Ok (xs, q) → FirstAndRest Lawful Rest xs × Stands bits p (joined print xs) × (q ≡ p + length (joined print xs))
    stands bits p xs q inside h = from_pair bits p inside (chained read rest pair bits p) refl xs q (sym (same_read bits (read bits p)) ∙ h)
