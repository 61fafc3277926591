-- Which row of D3D_SRV_DIMENSION each case of ResourceDimension is, and which row an answer names.
use Rattle.std.specs.Prelude.{ℕ, Result, Option}
use Rattle.codes.specs.Table.{row_of}
use Rattle.codes.specs.Microsoft.{D3D_SRV_DIMENSION, D3D_SRV_DIMENSION_UNKNOWN, D3D_SRV_DIMENSION_BUFFER, D3D_SRV_DIMENSION_TEXTURE1D}
use Rattle.codes.specs.Microsoft.{D3D_SRV_DIMENSION_TEXTURE1DARRAY, D3D_SRV_DIMENSION_TEXTURE2D, D3D_SRV_DIMENSION_TEXTURE2DARRAY}
use Rattle.codes.specs.Microsoft.{D3D_SRV_DIMENSION_TEXTURE2DMS, D3D_SRV_DIMENSION_TEXTURE2DMSARRAY, D3D_SRV_DIMENSION_TEXTURE3D}
use Rattle.codes.specs.Microsoft.{D3D_SRV_DIMENSION_TEXTURECUBE, D3D_SRV_DIMENSION_TEXTURECUBEARRAY, D3D_SRV_DIMENSION_BUFFEREX}
use Rattle.codes.specs.declared.dimension.ResourceDimension.{ResourceDimension}
use Rattle.codes.specs.declared.dimension.ResourceDimension.TheVariants.{Unknown, Buffer, Texture1D, Texture1DArray, Texture2D, Texture2DArray}
use Rattle.codes.specs.declared.dimension.ResourceDimension.TheVariants.{Texture2DMS, Texture2DMSArray, Texture3D, TextureCube}
use Rattle.codes.specs.declared.dimension.ResourceDimension.TheVariants.{TextureCubeArray, BufferEx}
use Rattle.codes.specs.declared.unknown.UnknownCode.{UnknownCode}

abbrev pub dimension_row : ResourceDimension → D3D_SRV_DIMENSION × ℕ
dimension_row Unknown = (D3D_SRV_DIMENSION_UNKNOWN, 0)
dimension_row Buffer = (D3D_SRV_DIMENSION_BUFFER, 1)
dimension_row Texture1D = (D3D_SRV_DIMENSION_TEXTURE1D, 2)
dimension_row Texture1DArray = (D3D_SRV_DIMENSION_TEXTURE1DARRAY, 3)
dimension_row Texture2D = (D3D_SRV_DIMENSION_TEXTURE2D, 4)
dimension_row Texture2DArray = (D3D_SRV_DIMENSION_TEXTURE2DARRAY, 5)
dimension_row Texture2DMS = (D3D_SRV_DIMENSION_TEXTURE2DMS, 6)
dimension_row Texture2DMSArray = (D3D_SRV_DIMENSION_TEXTURE2DMSARRAY, 7)
dimension_row Texture3D = (D3D_SRV_DIMENSION_TEXTURE3D, 8)
dimension_row TextureCube = (D3D_SRV_DIMENSION_TEXTURECUBE, 9)
dimension_row TextureCubeArray = (D3D_SRV_DIMENSION_TEXTURECUBEARRAY, 10)
dimension_row BufferEx = (D3D_SRV_DIMENSION_BUFFEREX, 11)

abbrev pub dimension_answer : Result ResourceDimension UnknownCode → Option (D3D_SRV_DIMENSION × ℕ)
dimension_answer = row_of dimension_row
