use Rattle.std.proofs.Common.{◌≡◌, ℕ, List, ◌++◌, length, drop, replicate, sym, ap, ◌∙◌, subst}
use Rattle.std.proofs.lemmas.List.{drop-replicate, length-take-le}
use Rattle.literals.specs.Tables.{AreSets, filled}
use Rattle.literals.proofs.Facts.{length-filled, filled_sets}
use Rattle.literals.proofs.table.filled.Goals as goal

abbrev zeros : List ℕ
zeros = replicate 33 0

pub returns : goal.returns
unfolding filled
returns c =
    let n = c.args.count in
    let first : c.fill.new.self ≡ replicate n c.args.literals = c.fill.ensures.after (λ y e. e) ∙ ap (λ k. replicate k c.args.literals) (length-take-le n zeros c.requires) in
    ap (λ xs. xs ++ drop n zeros) first ∙ ap (λ zs. replicate n c.args.literals ++ zs) (drop-replicate n 33 0)

pub invariant_of-result : goal.invariant_of-result
unfolding filled
invariant_of-result c =
    let n = c.args.count in
    let first : c.fill.new.self ≡ replicate n c.args.literals = c.fill.ensures.after (λ y e. e) ∙ ap (λ k. replicate k c.args.literals) (length-take-le n zeros c.requires) in
    let all : c.fill.new.self ++ drop n zeros ≡ filled n c.args.literals = ap (λ xs. xs ++ drop n zeros) first ∙ ap (λ zs. replicate n c.args.literals ++ zs) (drop-replicate n 33 0) in
    record {
      long = ap length all ∙ length-filled n c.args.literals c.requires;
      small = subst AreSets (sym all) (filled_sets n c.args.literals c.ranges.literals.fits);
    }
