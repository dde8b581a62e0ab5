-- The first three of some edges, found one by one.
use Rattle.std.specs.Prelude.{cond, List, ℕ, ◌+◌, eqb, length, get_or}
use Rattle.incidence.specs.declared.partners.Partners.{Partners}

-- how many edges a list has, and its first three, 0 for each that there is not
abbrev pub first_three : List ℕ → Partners
first_three is = record { count = length is; first = get_or is 0 0; second = get_or is 1 0; third = get_or is 2 0 }

-- one edge more behind those that were found
abbrev pub one_more : Partners → ℕ → Partners
one_more p e =
    record {
      count = p.count + 1;
      first = cond (eqb p.count 0) e p.first;
      second = cond (eqb p.count 1) e p.second;
      third = cond (eqb p.count 2) e p.third;
    }
