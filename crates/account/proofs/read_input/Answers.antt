-- A read takes more of what was left. Assumes nothing.
use Rattle.std.proofs.Common.{◌≡◌, ℕ, ◌+◌, ◌≤◌, List, ◌++◌, length, take, Some, None, Option, rules, arith, append_assoc, length-take, sym, ap, ◌∙◌, subst}
use Rattle.std.proofs.Math.Seq.{take-append-add}
use Rattle.std.proofs.lemmas.List.{take-append-le}
use Rattle.std.specs.Io.KnownBytes.{Consumes}
use borrow.Rule.Slice.PartMut.{put_mid, post_of}
use Rattle.account.proofs.read_input.Goals as goal

take-put_more : (count room n : ℕ) (buffer part : List ℕ) → count ≤ length buffer → n ≤ length part → take (count + n) (put_mid count room buffer part) ≡ take count buffer ++ take n part
take-put_more count room n buffer part within most =
    let kept = take count buffer in
    let after = post_of count room buffer in
    let long : length kept ≡ count = omega (arith, length-take count buffer) in
    subst (λ k. take (k + n) (kept ++ (part ++ after)) ≡ kept ++ take n part) long
    (take-append-add kept (part ++ after) n ∙ ap (λ xs. kept ++ xs) (take-append-le n part after most))

taken_more : (start before after : Option (List ℕ)) (a b : List ℕ) → Consumes start before a → Consumes before after b → Consumes start after (a ++ b)
taken_more None before after a b h k = tt
taken_more (Some xs) None after a b h k = absurd h
taken_more (Some xs) (Some ys) None a b h k = absurd k
taken_more (Some xs) (Some ys) (Some zs) a b h k = h ∙ ap (λ ys. a ++ ys) k ∙ sym (append_assoc a b zs)

pub loop-preserved : goal.loop-preserved
loop-preserved g c = record {
  within = search rules;
  turns = omega arith;
  taken =
      subst (Consumes (g.R.Read.remaining c.args.reader.now) (g.R.Read.remaining c.read.new.self))
      (sym (take-put_more c.loop.count _ c.in_ok-read.read c.loop.buffer c.read.new.buf c.loop.invariant.within c.in_ok-read.ensures.bound.0))
      (taken_more _ _ _ _ _ c.loop.invariant.taken c.in_ok-read.ensures.bytes.0);
}
