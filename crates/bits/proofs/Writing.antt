-- Bits written one after another. Assumes nothing.
use Rattle.std.proofs.Common.{◌≡◌, ℕ, ◌+◌, ◌*◌, ◌≤◌, Bool, true, false, cond, leb, List, [], ◌++◌, length, is_ok, Ok, Err, Result, sym, refl, ap, ◌∙◌, subst, arith, length-append}
use Rattle.std.proofs.lemmas.Bool.{le-leb, cond-true, false≢true}
use Rattle.bits.specs.Bits.{numeral, bytes_for, put, holding}
use Rattle.bits.specs.Fields.{written_field, Wrote, Filled}
use Rattle.bits.specs.declared.refusal.TooShort.{TooShort}
use Rattle.bits.specs.declared.writer.Writer.{Writer}
use Rattle.bits.proofs.Numbers.{length-numeral}
use Rattle.bits.proofs.Packing.{length-put, put-append, put_holds}

-- a write that has room is not refused
refused_room : (e : TooShort) (n m room : ℕ) → n ≤ room → Err e ≡ cond (leb n room) (Ok n) (Err (record { needed = m })) → ⊥
refused_room e n m room fits h =
    let z : ◌≡◌ {A = ℕ} 0 1 = cc (h ∙ cond-true (leb n room) (Ok n) (Err (record { needed = m })) (le-leb n room fits)) in omega arith

-- one field written
pub wrote_field : (w value : ℕ) (old new : Writer) (r : Result ℕ TooShort)
    → r ≡ written_field (length old.bytes.now) old.place w → new.bytes.ghost_name ≡ old.bytes.ghost_name
    → new.place ≡ cond (is_ok r) (old.place + w) old.place → new.bytes.now ≡ cond (is_ok r) (put old.place (numeral w value) old.bytes.now) old.bytes.now
    → Wrote (is_ok r) (numeral w value) old new
wrote_field w value old new (Ok x) told name next held =
    record {
      name = name;
      long = ap length held ∙ length-put old.place (numeral w value) old.bytes.now;
      put_there = λ _. (refl, next ∙ ap (λ k. old.place + k) (sym (length-numeral w value)), held);
    }
wrote_field w value old new (Err e) told name next held =
    record {
      name = name;
      long = ap length held;
      put_there = λ room. absurd (refused_room e (old.place + w) (bytes_for (old.place + w)) (8 * length old.bytes.now) (omega (arith, length-numeral w value)) told);
    }

-- nothing written
pub wrote_none : (w : Writer) → Wrote true [] w w
unfolding put
wrote_none w = record { name = refl; long = refl; put_there = λ _. (refl, omega arith, refl) }

-- the same bits by another name
pub wrote_as : {ok : Bool} {xs ys : List Bool} {v w : Writer} → xs ≡ ys → Wrote ok xs v w → Wrote ok ys v w
wrote_as {ok} {v = v} {w = w} same h = subst (λ l. Wrote ok l v w) same h

-- one write after another
pub wrote_then : {ok : Bool} {xs ys : List Bool} {u v w : Writer} → Wrote true xs u v → Wrote ok ys v w → Wrote ok (xs ++ ys) u w
wrote_then {ok} {xs} {ys} {u} {v} {w} h k =
    record { name = k.name ∙ h.name; long = k.long ∙ h.long; put_there = both }
  where
    both : u.place + length (xs ++ ys) ≤ 8 * length u.bytes.now → (ok ≡ true) × (w.place ≡ u.place + length (xs ++ ys)) × (w.bytes.now ≡ put u.place (xs ++ ys) u.bytes.now)
    both room =
        let all = length-append xs ys in
        let first = h.put_there (omega arith) in
        let second = k.put_there (omega (arith, h.long, first.1)) in
        (second.0, omega (arith, first.1, second.1), second.2 ∙ rw (first.1, first.2) (sym (put-append u.place xs ys u.bytes.now)))

-- a refused write refuses all
pub wrote_refused : {xs : List Bool} (ys : List Bool) {v w : Writer} → Wrote false xs v w → Wrote false (xs ++ ys) v w
wrote_refused {xs} ys {v} {w} h =
    record { name = h.name; long = h.long; put_there = λ room. absurd (false≢true (h.put_there (omega (arith, length-append xs ys))).0) }

-- all that was written from the start of a buffer
pub wrote_all : {ok : Bool} {xs : List Bool} {v w : Writer} → v.place ≡ 0 → Wrote ok xs v w → Filled ok xs v.bytes.now w.bytes.now
wrote_all {ok} {xs} {v} {w} start h = record { held = all }
  where
    all : bytes_for (length xs) ≤ length v.bytes.now → (ok ≡ true) × (w.bytes.now ≡ holding xs v.bytes.now)
    all room =
        let there = h.put_there (omega arith) in
        (there.0, there.2 ∙ ap (λ k. put k xs v.bytes.now) start ∙ put_holds xs v.bytes.now room)
