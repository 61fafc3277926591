-- Which row of D3D_SHADER_INPUT_TYPE each case of ResourceInputType is, and which row an answer names.
use Rattle.std.specs.Prelude.{ℕ, Result, Option}
use Rattle.codes.specs.Table.{row_of}
use Rattle.codes.specs.Microsoft.{D3D_SHADER_INPUT_TYPE, D3D_SIT_CBUFFER, D3D_SIT_TBUFFER, D3D_SIT_TEXTURE, D3D_SIT_SAMPLER}
use Rattle.codes.specs.Microsoft.{D3D_SIT_UAV_RWTYPED, D3D_SIT_STRUCTURED, D3D_SIT_UAV_RWSTRUCTURED, D3D_SIT_BYTEADDRESS}
use Rattle.codes.specs.Microsoft.{D3D_SIT_UAV_RWBYTEADDRESS, D3D_SIT_UAV_APPEND_STRUCTURED, D3D_SIT_UAV_CONSUME_STRUCTURED}
use Rattle.codes.specs.Microsoft.{D3D_SIT_UAV_RWSTRUCTURED_WITH_COUNTER, D3D_SIT_RTACCELERATIONSTRUCTURE, D3D_SIT_UAV_FEEDBACKTEXTURE}
use Rattle.codes.specs.declared.input_type.ResourceInputType.{ResourceInputType}
use Rattle.codes.specs.declared.input_type.ResourceInputType.TheVariants.{CBuffer, TBuffer, Texture, Sampler, UavRwTyped, Structured}
use Rattle.codes.specs.declared.input_type.ResourceInputType.TheVariants.{UavRwStructured, ByteAddress, UavRwByteAddress, UavAppendStructured}
use Rattle.codes.specs.declared.input_type.ResourceInputType.TheVariants.{UavConsumeStructured, UavRwStructuredWithCounter}
use Rattle.codes.specs.declared.input_type.ResourceInputType.TheVariants.{RtAccelerationStructure, UavFeedbackTexture}
use Rattle.codes.specs.declared.unknown.UnknownCode.{UnknownCode}

abbrev pub input_type_row : ResourceInputType → D3D_SHADER_INPUT_TYPE × ℕ
input_type_row CBuffer = (D3D_SIT_CBUFFER, 0)
input_type_row TBuffer = (D3D_SIT_TBUFFER, 1)
input_type_row Texture = (D3D_SIT_TEXTURE, 2)
input_type_row Sampler = (D3D_SIT_SAMPLER, 3)
input_type_row UavRwTyped = (D3D_SIT_UAV_RWTYPED, 4)
input_type_row Structured = (D3D_SIT_STRUCTURED, 5)
input_type_row UavRwStructured = (D3D_SIT_UAV_RWSTRUCTURED, 6)
input_type_row ByteAddress = (D3D_SIT_BYTEADDRESS, 7)
input_type_row UavRwByteAddress = (D3D_SIT_UAV_RWBYTEADDRESS, 8)
input_type_row UavAppendStructured = (D3D_SIT_UAV_APPEND_STRUCTURED, 9)
input_type_row UavConsumeStructured = (D3D_SIT_UAV_CONSUME_STRUCTURED, 10)
input_type_row UavRwStructuredWithCounter = (D3D_SIT_UAV_RWSTRUCTURED_WITH_COUNTER, 11)
input_type_row RtAccelerationStructure = (D3D_SIT_RTACCELERATIONSTRUCTURE, 12)
input_type_row UavFeedbackTexture = (D3D_SIT_UAV_FEEDBACKTEXTURE, 13)

abbrev pub input_type_answer : Result ResourceInputType UnknownCode → Option (D3D_SHADER_INPUT_TYPE × ℕ)
input_type_answer = row_of input_type_row
