-- The names that a listing has for codes and flags (the Rust's `name` functions and `write_flags`), each the name of one of Microsoft's enumerators or masks.
use Rattle.std.specs.Prelude.{List, [], ◌∷◌, ℕ, Option, None, Some}
use Rattle.codes.specs.Table.{lookup}
use Rattle.codes.specs.Microsoft.{D3D_SHADER_INPUT_TYPE, D3D_SIT_CBUFFER, D3D_SIT_TBUFFER, D3D_SIT_TEXTURE, D3D_SIT_SAMPLER}
use Rattle.codes.specs.Microsoft.{D3D_SIT_UAV_RWTYPED, D3D_SIT_STRUCTURED, D3D_SIT_UAV_RWSTRUCTURED, D3D_SIT_BYTEADDRESS}
use Rattle.codes.specs.Microsoft.{D3D_SIT_UAV_RWBYTEADDRESS, D3D_SIT_UAV_APPEND_STRUCTURED, D3D_SIT_UAV_CONSUME_STRUCTURED}
use Rattle.codes.specs.Microsoft.{D3D_SIT_UAV_RWSTRUCTURED_WITH_COUNTER, D3D_SIT_RTACCELERATIONSTRUCTURE, D3D_SIT_UAV_FEEDBACKTEXTURE}
use Rattle.codes.specs.Microsoft.{input_types}
use Rattle.codes.specs.Microsoft.{D3D_SRV_DIMENSION, D3D_SRV_DIMENSION_UNKNOWN, D3D_SRV_DIMENSION_BUFFER, D3D_SRV_DIMENSION_TEXTURE1D}
use Rattle.codes.specs.Microsoft.{D3D_SRV_DIMENSION_TEXTURE1DARRAY, D3D_SRV_DIMENSION_TEXTURE2D, D3D_SRV_DIMENSION_TEXTURE2DARRAY}
use Rattle.codes.specs.Microsoft.{D3D_SRV_DIMENSION_TEXTURE2DMS, D3D_SRV_DIMENSION_TEXTURE2DMSARRAY, D3D_SRV_DIMENSION_TEXTURE3D}
use Rattle.codes.specs.Microsoft.{D3D_SRV_DIMENSION_TEXTURECUBE, D3D_SRV_DIMENSION_TEXTURECUBEARRAY, D3D_SRV_DIMENSION_BUFFEREX, srv_dimensions}
use Rattle.codes.specs.Microsoft.{D3D_SIF_USERPACKED, D3D_SIF_COMPARISON_SAMPLER, D3D_SIF_TEXTURE_COMPONENT_0, D3D_SIF_TEXTURE_COMPONENT_1}
use Rattle.codes.specs.Microsoft.{D3D_SIF_UNUSED}
use Rattle.text_output.specs.Ascii.{ascii}

-- The name of the enumerator that a table's row has; another where there is no row.
abbrev pub row_name : {A : Type 0} → (A → List ℕ) → List ℕ → Option (A × ℕ) → List ℕ
row_name name other None = other
row_name name other (Some row) = name row.0

abbrev pub input_type_name : D3D_SHADER_INPUT_TYPE → List ℕ
input_type_name D3D_SIT_CBUFFER = ascii "cbuffer"
input_type_name D3D_SIT_TBUFFER = ascii "tbuffer"
input_type_name D3D_SIT_TEXTURE = ascii "texture"
input_type_name D3D_SIT_SAMPLER = ascii "sampler"
input_type_name D3D_SIT_UAV_RWTYPED = ascii "uav_rwtyped"
input_type_name D3D_SIT_STRUCTURED = ascii "structured"
input_type_name D3D_SIT_UAV_RWSTRUCTURED = ascii "uav_rwstructured"
input_type_name D3D_SIT_BYTEADDRESS = ascii "byteaddress"
input_type_name D3D_SIT_UAV_RWBYTEADDRESS = ascii "uav_rwbyteaddress"
input_type_name D3D_SIT_UAV_APPEND_STRUCTURED = ascii "uav_append_structured"
input_type_name D3D_SIT_UAV_CONSUME_STRUCTURED = ascii "uav_consume_structured"
input_type_name D3D_SIT_UAV_RWSTRUCTURED_WITH_COUNTER = ascii "uav_rwstructured_with_counter"
input_type_name D3D_SIT_RTACCELERATIONSTRUCTURE = ascii "rt_acceleration_structure"
input_type_name D3D_SIT_UAV_FEEDBACKTEXTURE = ascii "uav_feedback_texture"

-- The name of an input type by its number; `unknown` beyond the table.
abbrev pub listed_input_type : ℕ → List ℕ
listed_input_type n = row_name input_type_name (ascii "unknown") (lookup input_types n)

abbrev pub dimension_name : D3D_SRV_DIMENSION → List ℕ
dimension_name D3D_SRV_DIMENSION_UNKNOWN = ascii "NA"
dimension_name D3D_SRV_DIMENSION_BUFFER = ascii "buf"
dimension_name D3D_SRV_DIMENSION_TEXTURE1D = ascii "1d"
dimension_name D3D_SRV_DIMENSION_TEXTURE1DARRAY = ascii "1darray"
dimension_name D3D_SRV_DIMENSION_TEXTURE2D = ascii "2d"
dimension_name D3D_SRV_DIMENSION_TEXTURE2DARRAY = ascii "2darray"
dimension_name D3D_SRV_DIMENSION_TEXTURE2DMS = ascii "2dMS"
dimension_name D3D_SRV_DIMENSION_TEXTURE2DMSARRAY = ascii "2dMSarray"
dimension_name D3D_SRV_DIMENSION_TEXTURE3D = ascii "3d"
dimension_name D3D_SRV_DIMENSION_TEXTURECUBE = ascii "cube"
dimension_name D3D_SRV_DIMENSION_TEXTURECUBEARRAY = ascii "cubearray"
dimension_name D3D_SRV_DIMENSION_BUFFEREX = ascii "bufex"

-- The name of a dimension by its number; `NA` beyond the table.
abbrev pub listed_dimension : ℕ → List ℕ
listed_dimension n = row_name dimension_name (ascii "NA") (lookup srv_dimensions n)

-- A binding's flags, the lowest first: the mask and the name.
abbrev pub flag_names : List (ℕ × List ℕ)
flag_names =
    (D3D_SIF_USERPACKED, ascii "userPacked")
    ∷ (D3D_SIF_COMPARISON_SAMPLER, ascii "comparisonSampler")
    ∷ (D3D_SIF_TEXTURE_COMPONENT_0, ascii "texComp0")
    ∷ (D3D_SIF_TEXTURE_COMPONENT_1, ascii "texComp1")
    ∷ (D3D_SIF_UNUSED, ascii "unused")
    ∷ []
