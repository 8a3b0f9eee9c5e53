-- The sum of the counts of a bag, up to a limit.
use Rattle.std.proofs.Common.{◌≡◌, ◌≤◌, ◌+◌, ℕ, List, [], min, map, sum, sum_by, arith, subst}
use Rattle.std.proofs.lemmas.List.Sums.{sum-map}
use Rattle.asm_element.specs.declared.element.Element.{Element}

-- once no entry is left, the sum so far is that of all counts
pub counted_all : (n limit : ℕ) (rest first entries : List (Element × ℕ)) → rest ≡ [] → first ≡ entries → n ≤ limit →
    min (n + sum_by (λ e. e.1) rest) limit ≡ min (sum_by (λ e. e.1) first) limit →
    n ≡ min (sum (map (λ e. e.1) entries)) limit
counted_all n limit rest first entries none start fits all =
    let left : min (n + 0) limit ≡ min (sum_by (λ e. e.1) entries) limit =
    subst (λ (es : List (Element × ℕ)). min (n + sum_by (λ e. e.1) es) limit ≡ min (sum_by (λ e. e.1) entries) limit) none
    (subst (λ (es : List (Element × ℕ)). min (n + sum_by (λ e. e.1) rest) limit ≡ min (sum_by (λ e. e.1) es) limit) start all) in
    let sums = sum-map (λ (e : Element × ℕ). e.1) entries in
    omega (arith, left, fits, sums)
