-- Laws that the walks' proofs cite.
mod Many
mod Loop
mod Codes
mod Default
mod Taking
mod Put
mod Grown
mod OneBinding
mod OneVariable
mod OneBuffer
