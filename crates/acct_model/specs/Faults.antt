-- Lists whose elements are judged in turn, each by those before it.
use Rattle.std.specs.Prelude.{Option, None, Some, List, [], ◌∷◌, ◌++◌}
use Rattle.std.specs.Option.{option_or}

-- The first fault of elements that follow earlier ones: each is judged by all before it.
abbrev pub first_fault_after : {X E : Type 0} → (List X → X → Option E) → List X → List X → Option E
first_fault_after fault earlier [] = None
first_fault_after fault earlier (x ∷ later) =
    option_or (fault earlier x) (first_fault_after fault (earlier ++ x ∷ []) later)

-- The first fault of a list.
abbrev pub first_fault : {X E : Type 0} → (List X → X → Option E) → List X → Option E
first_fault fault list = first_fault_after fault [] list

-- What an error is: the fault, or the given one if there is no fault.
abbrev pub fault_or : {E : Type 0} → E → Option E → E
fault_or other None = other
fault_or other (Some fault) = fault
