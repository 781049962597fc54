mod Order
