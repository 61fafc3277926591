-- Numbers, each with the code that is right for it: the tables' ends, and the dimensions that shader bytecode numbers otherwise (there 3 is a 2D texture).
use Rattle.std.specs.Prelude.{List, [], ◌∷◌, Some, None}
use Rattle.codes.specs.declared.input_type.ResourceInputType.{ResourceInputType}
use Rattle.codes.specs.declared.dimension.ResourceDimension.{ResourceDimension}
use Rattle.codes.specs.declared.variable.VariableClass.{VariableClass}
use Rattle.codes.specs.declared.variable.BaseType.{BaseType}
use Rattle.worked_examples.specs.Example.{Example, input_type, dimension, variable_class, base_type}

unfoldable pub code_examples : List Example
code_examples =
    input_type 0 (Some ResourceInputType.CBuffer)
    ∷ input_type 13 (Some ResourceInputType.UavFeedbackTexture)
    ∷ input_type 14 None
    ∷ dimension 0 (Some ResourceDimension.Unknown)
    ∷ dimension 3 (Some ResourceDimension.Texture1DArray)
    ∷ dimension 4 (Some ResourceDimension.Texture2D)
    ∷ dimension 5 (Some ResourceDimension.Texture2DArray)
    ∷ dimension 8 (Some ResourceDimension.Texture3D)
    ∷ dimension 11 (Some ResourceDimension.BufferEx)
    ∷ dimension 12 None
    ∷ variable_class 3 (Some VariableClass.MatrixColumns)
    ∷ variable_class 7 (Some VariableClass.InterfacePointer)
    ∷ variable_class 8 None
    ∷ base_type 0 None
    ∷ base_type 19 (Some BaseType.Uint)
    ∷ base_type 20 None
    ∷ base_type 39 (Some BaseType.Double)
    ∷ []
