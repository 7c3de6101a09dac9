-- What the theorems say of models; the definition of backbone is that of Biere, Froleyks and Wang, "CadiBack: Extracting Backbones
-- with CaDiCaL" (SAT 2023), section 2. Assumes nothing.
use Rattle.std.specs.Prelude.{◌≡◌, ◌≢◌, ◌↔◌, true, List, ◌∷◌, ℕ, ◌<◌, ℤ, length}
use Rattle.rules.specs.Lists.{In}
use Rattle.rules.specs.Meaning.{Clause, Values, value_at, is_true, satisfies, Total, Model}
use Rattle.rules.specs.Run.{flipped}

-- m has the value of vs wherever vs is set
pub record Extends (vs m : Values) : Type 0 where
  pub agrees : (i : ℕ) → value_at vs i ≢ 0 → value_at m i ≡ value_at vs i

-- compared from variable 1 up, false before true, m does not come after d
pub data NotAfter (m d : Values) : Type 0 where
  same : ((i : ℕ) → value_at m i ≡ value_at d i) → NotAfter m d
  before : (i : ℕ) → ((j : ℕ) → j < i → value_at m j ≡ value_at d j) → value_at m i ≡ 1 → value_at d i ≡ 2 → NotAfter m d

-- a model of F that extends vs, and comes after no other
pub record LeastModel (F : List Clause) (vs m : Values) : Type 0 where
  pub ext : Extends vs m
  pub len : length m ≡ length vs
  pub total : Total m
  pub all_true : satisfies m F ≡ true
  pub least : (d : Values) → Extends vs d → Total d → satisfies d F ≡ true → NotAfter m d

-- no model of F extends vs
pub record NoModelFrom (F : List Clause) (vs : Values) : Type 0 where
  pub none_from : (m : Values) → Extends vs m → Total m → satisfies m F ≡ true → ⊥

pub record NoModel (n : ℕ) (F : List Clause) : Type 0 where
  pub none : (m : Values) → Model n F m → ⊥

-- a literal is forced if a model exists and all models contain it
pub record Forced (n : ℕ) (F : List Clause) (l : ℤ) : Type 0 where
  pub some_model : Values
  pub is-model : Model n F some_model
  pub in_all : (m : Values) → Model n F m → is_true m l ≡ true

-- the variable at an index is free if models differ on it
pub record Free (n : ℕ) (F : List Clause) (i : ℕ) : Type 0 where
  pub one : Values
  pub two : Values
  pub one_is : Model n F one
  pub two_is : Model n F two
  pub differ : value_at one i ≢ value_at two i

-- each clause of F, read as a set of literals, is one of G
pub record Covers (F G : List Clause) : Type 0 where
  pub like : (cl : Clause) → In cl F → (d : Clause) × In d G × ((l : ℤ) → In l cl ↔ In l d)

-- the variable at index i has, against the first model of a run, a witness among the run's models: one that differs on it, or
-- one that, with this variable alone flipped, is still a model and differs on it
pub data Witness (n : ℕ) (F : List Clause) (first : Values) (models : List Values) (i : ℕ) : Type 0 where
  by_model_lem : (m : Values) → In m models → value_at m i ≢ value_at first i → Witness n F first models i
  by_flip : (m : Values) → In m models → Model n F (flipped m i) → value_at (flipped m i) i ≢ value_at first i → Witness n F first models i

-- of the models that a run found, in order, the first one, and a witness against it
pub record WitnessOf (n : ℕ) (F : List Clause) (models : List Values) (i : ℕ) : Type 0 where
  pub first : Values
  pub rest : List Values
  pub models_are : models ≡ first ∷ rest
  pub each : (m : Values) → In m models → Model n F m
  pub witness : Witness n F first models i
