-- What contracts see of a transaction.
use Rattle.std.specs.Prelude.{ℕ, List, [], map, string_bytes, refl}
use Rattle.std.specs.Coded.{Coded, code_by, coded×, coded_ℕ, coded_list}
use Rattle.asm_element.specs.Place.{Place}
use Rattle.asm_state.specs.declared.named.Named.{Named}
use Rattle.asm_state.specs.declared.scanned.Scanned.{Scanned}
use Rattle.asm_step.specs.Layers.{Layer, all_moves}
use Rattle.asm_update.specs.Move.{Move}

-- the version at which it began, a layer for each pushed move with those that extend it, the locations that it tracks,
-- and the names of the functions that it scanned, each once
pub record TransactionView : Type 0 where
  pub number : ℕ
  pub layers : List Layer
  pub tracked : List Place
  pub scanned : List (List ℕ)

-- it is stored as a tuple
abbrev pub transaction_code : Coded (List Layer) → Coded (List Place) → Coded TransactionView
transaction_code y l =
    code_by (ℕ × (List Layer × (List Place × List (List ℕ))))
    (coded× coded_ℕ (coded× y (coded× l (coded_list (coded_list coded_ℕ)))))
    (λ t. (t.number, (t.layers, (t.tracked, t.scanned))))
    (λ p. record { number = p.0; layers = p.1.0; tracked = p.1.1.0; scanned = p.1.1.1 }) (λ _. refl)

-- a transaction at this version, which has pushed and read nothing
abbrev pub new_transaction : ℕ → TransactionView
new_transaction n = record { number = n; layers = []; tracked = []; scanned = [] }

-- the locations of these declared reads
abbrev pub places_of : List Named → List Place
places_of reads = map (λ r. r.at) reads

-- the names of the functions that these scans are of
abbrev pub names_of : List Scanned → List (List ℕ)
names_of scans = map (λ x. string_bytes x.name) scans

-- its pushed moves, each with those that extend it
abbrev pub pushed : TransactionView → List (List Move)
pushed t = map (λ y. y.moves) t.layers

-- all of them, in turn
abbrev pub moves_of : TransactionView → List Move
moves_of t = all_moves (pushed t)
