-- The texts of the TypeErrors by number: boa's for 1 to 28. Assumes nothing.
use Rattle.std.specs.Prelude.{ℕ, List, [], ◌∷◌, get_or}
use Prim.Native.String.{String}
use Prim.Native.Char.{code}

-- the characters of a text, as numbers
unfoldable pub codes : String → List ℕ
codes String.[] = []
codes (String.◌∷◌ c s) = code c ∷ codes s

-- message 0 stands for none
abbrev pub texts : List String
texts =
    ""
    ∷ "Proxy object has empty handler and target"
    ∷ "Proxy trap result is neither object nor null"
    ∷ "Proxy trap returned unexpected prototype"
    ∷ "Proxy trap failed to set prototype"
    ∷ "Proxy trap returned unexpected extensible value"
    ∷ "Proxy trap failed to set extensible"
    ∷ "Proxy trap result is neither object nor undefined"
    ∷ "Proxy trap result is undefined and target result is not configurable"
    ∷ "Proxy trap result is undefined and target is not extensible"
    ∷ "Proxy trap returned unexpected property"
    ∷ "Proxy trap result is writable and not configurable while target result is not configurable"
    ∷ "Proxy trap result is not configurable and target result is undefined"
    ∷ "Proxy trap failed to set property"
    ∷ "Proxy trap set property to unexpected value"
    ∷ "Proxy trap set property with unexpected configurable field"
    ∷ "Proxy trap set property with unexpected writable field"
    ∷ "Proxy trap returned unexpected data descriptor"
    ∷ "Proxy trap returned unexpected accessor descriptor"
    ∷ "Proxy trap set unexpected data descriptor"
    ∷ "Proxy trap set unexpected accessor descriptor"
    ∷ "Proxy trap failed to delete property"
    ∷ "Proxy trap result contains duplicate string property keys"
    ∷ "Proxy trap result contains duplicate symbol property keys"
    ∷ "Proxy trap failed to return all non-configurable property keys"
    ∷ "Proxy trap failed to return all configurable property keys"
    ∷ "Proxy trap failed to return all property keys"
    ∷ "Property descriptor getter must be callable"
    ∷ "Property descriptor setter must be callable"
    ∷ "Property descriptor must not mix accessor and data fields"
    ∷ "Property key list has an element that is neither string nor symbol"
    ∷ "Property key list is not an object"
    ∷ "Property definition was rejected"
    ∷ []

-- the text of message n, for n from 1 to 32; of any other number it is empty
unfoldable pub message_text : ℕ → List ℕ
message_text n = codes (get_or texts n "")
